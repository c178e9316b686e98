-- What is known while values are read into a bank, one list after another.
use Rattle.std.proofs.Common.{◌≡◌, ℕ, zero, suc, ◌+◌, ◌<◌, List, [], ◌∷◌, ◌++◌, map, length, take, slice_index_or, sym, refl, ap, ap₂, ◌∙◌, subst, arith, append_assoc}
use Rattle.law_sig.specs.Lists.{Each}
use Rattle.law_sig.specs.declared.tree.Tree.{Tree}
use Rattle.law_ids.specs.declared.ids.ValueId.{ValueId}
use Rattle.law_ids.specs.Values.{IsOf, AreOf, tree_of, trees_of, Grows}
use Rattle.law_ids.proofs.BankFacts.{tree_stays, id_stays}

-- growth goes on
pub grows_not : (a : List Tree) → Grows a a
grows_not a = ([], nothing a)
  where
    nothing : (l : List Tree) → l ≡ l ++ []
    nothing [] = refl
    nothing (x ∷ l) = ap (λ m. x ∷ m) (nothing l)

pub grows_on : (a b c : List Tree) → Grows a b → Grows b c → Grows a c
grows_on a b c g h = (g.0 ++ h.0, h.1 ∙ ap (λ l. l ++ h.0) g.1 ∙ append_assoc a g.0 h.0)

-- what is held in a bank, and what it means there, stays when the bank grows
abbrev pub Stays : {X Y : Type 0} → (List Tree → X → Type 0) → (List Tree → X → Y) → Type 0
Stays {X} H M = (old new : List Tree) → Grows old new → (x : X) → H old x → H new x × (M new x ≡ M old x)

pub id_keeps : Stays {X = ValueId} IsOf tree_of
id_keeps old new grows v held =
    (subst (λ b. IsOf b v) (sym grows.1) (id_stays old grows.0 v held), ap (λ b. tree_of b v) grows.1 ∙ tree_stays old grows.0 v held)

-- so it does for each of a list
pub list_keeps : {X Y : Type 0} (H : List Tree → X → Type 0) (M : List Tree → X → Y) → Stays H M → Stays {X = List X} (λ b xs. Each (H b) xs) (λ b xs. map (M b) xs)
list_keeps {X} {Y} H M stays old new grows = all
  where
    all : (xs : List X) → Each (H old) xs → Each (H new) xs × (map (M new) xs ≡ map (M old) xs)
    all [] held = (tt, refl)
    all (x ∷ xs) held =
        let first = stays old new grows x held.0 in
        let others = all xs held.1 in
        ((first.0, others.0), ap₂ ◌∷◌ first.1 others.1)

pub ids_keep : Stays {X = List ValueId} AreOf trees_of
ids_keep = list_keeps {X = ValueId} {Y = Tree} IsOf tree_of id_keeps

pub sorts_keep : Stays {X = List (List ValueId)} (λ b xs. Each (AreOf b) xs) (λ b xs. map (trees_of b) xs)
sorts_keep = list_keeps {X = List ValueId} {Y = List Tree} AreOf trees_of ids_keep

-- those read so far, in a bank that has grown
pub record Reads {X Y : Type 0} (H : List Tree → X → Type 0) (M : List Tree → X → Y) (old bank : List Tree) (xs : List X) (done : List Y) : Type 0 where
  pub held : Each (H bank) xs
  pub means : map (M bank) xs ≡ done
  pub grows : Grows old bank

each_more : {X : Type 0} (P : X → Type 0) (xs : List X) (x : X) → Each P xs → P x → Each P (xs ++ x ∷ [])
each_more P [] x held is = (is, tt)
each_more P (y ∷ xs) x held is = (held.0, each_more P xs x held.1 is)

map_more : {X Y : Type 0} (f : X → Y) (xs : List X) (x : X) → map f (xs ++ x ∷ []) ≡ map f xs ++ f x ∷ []
map_more f [] x = refl
map_more f (y ∷ xs) x = ap (λ l. f y ∷ l) (map_more f xs x)

-- none is read yet
pub reads_none : {X Y : Type 0} (H : List Tree → X → Type 0) (M : List Tree → X → Y) (bank : List Tree) → Reads H M bank bank [] []
reads_none H M bank = record { held = tt; means = refl; grows = grows_not bank }

-- one more is read
pub reads_more : {X Y : Type 0} (H : List Tree → X → Type 0) (M : List Tree → X → Y) → Stays H M → (old bank new : List Tree) (xs more : List X) (done then : List Y) (x : X) (y : Y)
    → Reads H M old bank xs done → Grows bank new → H new x → M new x ≡ y → more ≡ xs ++ x ∷ [] → then ≡ done ++ y ∷ [] → Reads H M old new more then
reads_more {X} {Y} H M stays old bank new xs more done then x y reads grows held means is_more is_then =
    let kept = list_keeps {X = X} {Y = Y} H M stays bank new grows xs reads.held in
    record {
      held = subst (Each (H new)) (sym is_more) (each_more (H new) xs x kept.0 held);
      means = ap (map (M new)) is_more ∙ map_more (M new) xs x ∙ ap₂ (λ l z. l ++ z ∷ []) (kept.1 ∙ reads.means) means ∙ sym is_then;
      grows = grows_on old bank new reads.grows grows;
    }

-- the first items of a list and the next one
pub take_next : {Y : Type 0} (ys : List Y) (at : ℕ) (y : Y) → at < length ys → y ≡ slice_index_or ys at y → take (at + 1) ys ≡ take at ys ++ y ∷ []
take_next [] at y h is = absurd (omega arith)
take_next (z ∷ ys) zero y h is = ap (λ w. w ∷ []) (sym is)
take_next (z ∷ ys) (suc n) y h is =
    let next : suc n + 1 ≡ suc (n + 1) = omega arith in
    ap (λ k. take k (z ∷ ys)) next ∙ ap (λ l. z ∷ l) (take_next ys n y (omega arith) is)

-- what each item of a list has, the one at a place has
pub each_at : {Y : Type 0} (P : Y → Type 0) (ys : List Y) (at : ℕ) (y : Y) → Each P ys → at < length ys → y ≡ slice_index_or ys at y → P y
each_at P [] at y have h is = absurd (omega arith)
each_at P (z ∷ ys) zero y have h is = subst P (sym is) have.0
each_at P (z ∷ ys) (suc n) y have h is = each_at P ys n y have.1 (omega arith) is
