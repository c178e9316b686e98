-- Lists whose last item comes next.
use Rattle.std.proofs.Common.{◌≡◌, ℕ, zero, suc, ◌-◌, ◌<◌, List, [], ◌∷◌, ◌++◌, length, Some, None, slice_get, slice_index_or, ◌≤◌, take, drop, false, ◌==◌, refl, sym, ap, ◌∙◌, arith}
use Rattle.law_ids.proofs.Tops.{pushed}
use Rattle.law_eval.specs.Work.{Ids, Todo, spread_out}
use Rattle.law_ids.specs.Tops.{tops_onto, tops}
use Rattle.law_eval.specs.Work.Todo.{eval, each}
use Rattle.law_sig.specs.declared.tree.Body.{Body}
use Rattle.std.proofs.Math.Seq.{take-length}

-- all that is under way is the same where each part is
pub same_ids : {a b : Ids} → a.tasks ≡ b.tasks → a.rows ≡ b.rows → a.frames ≡ b.frames → a.left ≡ b.left → a ≡ b
same_ids tasks rows frames left = λ i. record { tasks = tasks i; rows = rows i; frames = frames i; left = left i }

-- an item was added at the end, and another after it
pub pushed_twice : {A B : Type 0} (f : A → B) (old between new : List A) (x y : A) → between ≡ old ++ x ∷ [] → new ≡ between ++ y ∷ []
    → tops f new ≡ f y ∷ f x ∷ tops f old
pushed_twice f old between new x y e k = pushed f between new y k ∙ ap (λ l. f y ∷ l) (pushed f old between x e)

last_onto : {A B : Type 0} (f : A → B) (xs : List A) (x : A) (more : List B) → slice_get xs (length xs - 1) ≡ Some x
    → (others : List B) × (tops_onto f xs more ≡ f x ∷ others)
last_onto f [] x more e = cc
last_onto f (y ∷ []) x more e = (more, ap (λ z. f z ∷ more) (let is : y ≡ x = cc in is))
last_onto f (y ∷ z ∷ xs) x more e =
    let n : length (y ∷ z ∷ xs) - 1 ≡ suc (length (z ∷ xs) - 1) = omega arith in
    last_onto f (z ∷ xs) x (f y ∷ more) (sym (ap (slice_get (y ∷ z ∷ xs)) n) ∙ e)

-- the last item stands first
pub last_first : {A B : Type 0} (f : A → B) (xs : List A) (x : A) → slice_get xs (length xs - 1) ≡ Some x → (others : List B) × (tops f xs ≡ f x ∷ others)
last_first f xs x e = last_onto f xs x [] e

-- a list whose last item is missing is empty
pub no_last : {A B : Type 0} (f : A → B) (xs : List A) → slice_get xs (length xs - 1) ≡ None → tops f xs ≡ []
no_last f [] e = refl
no_last f (x ∷ xs) e =
    let n : length (x ∷ xs) - 1 ≡ length xs = omega arith in
    absurd (missing (x ∷ xs) (length xs) (omega arith) (sym (ap (slice_get (x ∷ xs)) n) ∙ e))
  where
    missing : {A : Type 0} (xs : List A) (at : ℕ) → at < length xs → slice_get xs at ≡ None → ⊥
    missing [] at h e = omega arith
    missing (x ∷ xs) zero h e = cc
    missing (x ∷ xs) (suc n) h e = missing xs n (omega arith) e

first_onto : {A B : Type 0} (f : A → B) (xs : List A) (y : B) (more : List B) → (first : B) × (others : List B) × (tops_onto f xs (y ∷ more) ≡ first ∷ others)
first_onto f [] y more = (y, more, refl)
first_onto f (x ∷ xs) y more = first_onto f xs (f x) (y ∷ more)

-- an item stands first where there is one
pub has_first : {A B : Type 0} (f : A → B) (xs : List A) → (length xs == 0) ≡ false → (first : B) × (others : List B) × (tops f xs ≡ first ∷ others)
has_first f [] h = cc
has_first f (x ∷ xs) h = first_onto f xs (f x) []

-- no row but the first stands first
pub first_is : {A : Type 0} (x y : A) (xs ys : List A) → x ∷ xs ≡ y ∷ ys → x ≡ y
first_is x y xs ys e = cc

-- the first of some bodies, and the others
pub spread_is : (bodies : List Body) (first : Body) (more : List Todo) → 1 ≤ length bodies → first ≡ slice_index_or bodies 0 first
    → eval first ∷ each (take (length bodies - 1) (drop 1 bodies)) ∷ more ≡ spread_out bodies more
spread_is [] first more h is = absurd (omega arith)
spread_is (body ∷ bodies) first more h is =
    let n : length (body ∷ bodies) - 1 ≡ length bodies = omega arith in
    ap (λ b. eval b ∷ each (take (length (body ∷ bodies) - 1) bodies) ∷ more) is ∙ ap (λ k. eval body ∷ each (take k bodies) ∷ more) n
    ∙ ap (λ l. eval body ∷ each l ∷ more) (take-length bodies)
