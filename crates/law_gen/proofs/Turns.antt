-- What is known while things are drawn one after the other.
use Rattle.std.proofs.Common.{◌≡◌, ℕ, zero, suc, ◌+◌, ◌<◌, ◌≤◌, List, [], ◌∷◌, ◌++◌, map, length, take, drop, slice_index_or, slice_get, Some, sym, refl, ap, ap₂, ◌∙◌, subst, arith, append_assoc}
use Rattle.rand_pcg.specs.Lcg.{Lcg}
use Rattle.law_sig.specs.Lists.{Each, In, total}
use Rattle.law_sig.specs.Lists.In.{here, there}
use Rattle.law_sig.specs.declared.tree.Tree.{Tree}
use Rattle.law_ids.specs.Values.{Grows}
use Rattle.law_ids.proofs.Reading.{Stays, grows_not, grows_on, list_keeps}
use Rattle.law_draws.specs.Draws.{Drawn, in_turn}

-- those made so far, in a bank that has grown, and those that are left
pub record Going {S X Y : Type 0} (H : List Tree → X → Type 0) (M : List Tree → X → Y) (draw : S → Lcg → Drawn Y) (whole : Drawn (List Y))
    (old bank : List Tree) (xs : List X) (left : List S) (rng : Lcg) : Type 0 where
  pub held : Each (H bank) xs
  pub grows : Grows old bank
  pub made : whole.made ≡ map (M bank) xs ++ (in_turn draw left rng).made
  pub after : whole.after ≡ (in_turn draw left rng).after

pub going_first : {S X Y : Type 0} (H : List Tree → X → Type 0) (M : List Tree → X → Y) (draw : S → Lcg → Drawn Y) (bank : List Tree) (all : List S) (rng : Lcg)
    → Going {S = S} {X = X} {Y = Y} H M draw (in_turn draw all rng) bank bank [] all rng
going_first {S} {X} {Y} H M draw bank all rng = record { held = tt; grows = grows_not bank; made = refl; after = refl }

each_more : {X : Type 0} (P : X → Type 0) (xs : List X) (x : X) → Each P xs → P x → Each P (xs ++ x ∷ [])
each_more P [] x held is = (is, tt)
each_more P (y ∷ xs) x held is = (held.0, each_more P xs x held.1 is)

map_more : {X Y : Type 0} (f : X → Y) (xs : List X) (x : X) → map f (xs ++ x ∷ []) ≡ map f xs ++ f x ∷ []
map_more f [] x = refl
map_more f (y ∷ xs) x = ap (λ l. f y ∷ l) (map_more f xs x)

-- the meanings of one more
pub means_more : {X Y : Type 0} (H : List Tree → X → Type 0) (M : List Tree → X → Y) → Stays H M → (bank new : List Tree) (xs more : List X) (x : X)
    → Each (H bank) xs → Grows bank new → more ≡ xs ++ x ∷ [] → map (M new) more ≡ map (M bank) xs ++ M new x ∷ []
means_more {X} {Y} H M stays bank new xs more x held grows is_more =
    ap (map (M new)) is_more ∙ map_more (M new) xs x ∙ ap (λ l. l ++ M new x ∷ []) (list_keeps {X = X} {Y = Y} H M stays bank new grows xs held).1

pub going_more : {S X Y : Type 0} (H : List Tree → X → Type 0) (M : List Tree → X → Y) (draw : S → Lcg → Drawn Y) → Stays H M → (whole : Drawn (List Y))
    (old bank new : List Tree) (xs more : List X) (x : X) (s : S) (all left : List S) (rng next : Lcg)
    → Going H M draw whole old bank xs all rng → all ≡ s ∷ left → Grows bank new → H new x → M new x ≡ (draw s rng).made → next ≡ (draw s rng).after → more ≡ xs ++ x ∷ []
    → Going H M draw whole old new more left next
going_more {S} {X} {Y} H M draw stays whole old bank new xs more x s all left rng next going is_all grows held means is_next is_more =
    let kept = list_keeps {X = X} {Y = Y} H M stays bank new grows xs going.held in
    record {
      held = subst (Each (H new)) (sym is_more) (each_more (H new) xs x kept.0 held);
      grows = grows_on old bank new going.grows grows;
      made = going.made ∙ ap (λ l. map (M bank) xs ++ (in_turn draw l rng).made) is_all
          ∙ ap₂ (λ y g. map (M bank) xs ++ y ∷ (in_turn draw left g).made) (sym means) (sym is_next)
          ∙ sym (append_assoc (map (M bank) xs) (M new x ∷ []) (in_turn draw left next).made)
          ∙ ap (λ l. l ++ (in_turn draw left next).made) (sym (means_more H M stays bank new xs more x going.held grows is_more));
      after = going.after ∙ ap (λ l. (in_turn draw l rng).after) is_all ∙ ap (λ g. (in_turn draw left g).after) (sym is_next);
    }

-- where the next one stands
pub going_here : {S X Y : Type 0} (H : List Tree → X → Type 0) (M : List Tree → X → Y) (draw : S → Lcg → Drawn Y) (whole : Drawn (List Y))
    (old bank : List Tree) (xs : List X) (s : S) (all left : List S) (rng : Lcg) → Going H M draw whole old bank xs all rng → all ≡ s ∷ left
    → whole.made ≡ map (M bank) xs ++ (draw s rng).made ∷ (in_turn draw left (draw s rng).after).made
going_here H M draw whole old bank xs s all left rng going is_all = going.made ∙ ap (λ l. map (M bank) xs ++ (in_turn draw l rng).made) is_all

nothing_more : {A : Type 0} (xs : List A) → xs ++ [] ≡ xs
nothing_more [] = refl
nothing_more (x ∷ xs) = ap (λ l. x ∷ l) (nothing_more xs)

-- at the end
pub going_last : {S X Y : Type 0} (H : List Tree → X → Type 0) (M : List Tree → X → Y) (draw : S → Lcg → Drawn Y) (whole : Drawn (List Y))
    (old bank : List Tree) (xs : List X) (left : List S) (rng : Lcg) → Going H M draw whole old bank xs left rng → left ≡ [] → (whole.made ≡ map (M bank) xs) × (whole.after ≡ rng)
going_last H M draw whole old bank xs left rng going none =
    (going.made ∙ ap (λ l. map (M bank) xs ++ (in_turn draw l rng).made) none ∙ nothing_more (map (M bank) xs), going.after ∙ ap (λ l. (in_turn draw l rng).after) none)

-- Parts of a list

pub in_middle : {A : Type 0} (xs ys : List A) (x : A) → In x (xs ++ x ∷ ys)
in_middle [] ys x = here
in_middle (y ∷ xs) ys x = there (in_middle xs ys x)

pub get_middle : {A : Type 0} (xs ys : List A) (x : A) → slice_get (xs ++ x ∷ ys) (length xs) ≡ Some x
get_middle [] ys x = refl
get_middle (y ∷ xs) ys x = get_middle xs ys x

pub take_front : {A : Type 0} (xs ys : List A) → take (length xs) (xs ++ ys) ≡ xs
take_front [] ys = refl
take_front (x ∷ xs) ys = ap (λ l. x ∷ l) (take_front xs ys)

pub drop_past : {A : Type 0} (xs : List A) (at : ℕ) → length xs ≤ at → drop at xs ≡ []
drop_past [] zero h = refl
drop_past [] (suc n) h = refl
drop_past (x ∷ xs) zero h = absurd (omega arith)
drop_past (x ∷ xs) (suc n) h = drop_past xs n (omega arith)

pub total_middle : (xs ys : List ℕ) (n : ℕ) → total xs + n ≤ total (xs ++ n ∷ ys)
total_middle [] ys n = omega arith
total_middle (x ∷ xs) ys n = let h : total xs + n ≤ total (xs ++ n ∷ ys) = total_middle xs ys n in omega arith

pub map_append : {A B : Type 0} (f : A → B) (xs ys : List A) → map f (xs ++ ys) ≡ map f xs ++ map f ys
map_append f [] ys = refl
map_append f (x ∷ xs) ys = ap (λ l. f x ∷ l) (map_append f xs ys)

pub total_more : (xs : List ℕ) (n : ℕ) → total (xs ++ n ∷ []) ≡ total xs + n
total_more [] n = omega arith
total_more (x ∷ xs) n = let h : total (xs ++ n ∷ []) ≡ total xs + n = total_more xs n in omega arith

-- from a place on
pub at_next : {A : Type 0} (xs : List A) (at : ℕ) (d : A) → at < length xs → drop at xs ≡ slice_index_or xs at d ∷ drop (at + 1) xs
at_next [] at d h = absurd (omega arith)
at_next (y ∷ xs) zero d h = refl
at_next (y ∷ xs) (suc n) d h =
    let next : suc n + 1 ≡ suc (n + 1) = omega arith in
    at_next xs n d (omega arith) ∙ ap (λ k. slice_index_or xs n d ∷ drop k (y ∷ xs)) (sym next)

-- what each has, and one more
pub each_means : {X Y : Type 0} (H : List Tree → X → Type 0) (M : List Tree → X → Y) → Stays H M → (P : Y → Type 0) (bank new : List Tree) (xs more : List X) (x : X)
    → Each (H bank) xs → Grows bank new → more ≡ xs ++ x ∷ [] → Each P (map (M bank) xs) → P (M new x) → Each P (map (M new) more)
each_means H M stays P bank new xs more x held grows is_more have is =
    subst (Each P) (sym (means_more H M stays bank new xs more x held grows is_more)) (each_more P (map (M bank) xs) (M new x) have is)
