-- What is completed while a value is written.
use Rattle.std.proofs.Common.{◌≡◌, ℕ, zero, suc, ◌+◌, ◌*◌, ◌<◌, ◌≤◌, List, [], ◌∷◌, ◌++◌, length, map, take, drop, Some, slice_get, Ok, Err, Result, OnOk, refl, sym, ap, subst, ◌∙◌, arith}
use Rattle.law_sig.specs.Lists.{Each, total}
use Rattle.law_sig.specs.Trees.{node_count}
use Rattle.law_sig.specs.declared.tree.SymId.{SymId}
use Rattle.law_sig.specs.declared.tree.Tree.{Tree}
use Rattle.law_sig.specs.declared.tree.Tree.TheVariants.{App}
use Rattle.law_value.specs.declared.bank.Part.{Part}
use Rattle.law_ids.specs.Tops.{tops}
use Rattle.law_ids.specs.Values.{IsOf, tree_of, head_of, fields_of}
use Rattle.law_value.specs.Writing.{Piece, IsPartOf, completed, wholes_onto, steps_of, IsOpened, piece_of, pieces, IsAdvanced, IsWriting}
use Rattle.law_value.specs.Writing.Piece.{whole, join}
use Rattle.law_value.specs.declared.bank.Part.TheVariants as part
use Rattle.law_ids.specs.declared.ids.ValueId.{ValueId}
use Rattle.law_ids.proofs.Tops.{pushed, none_left}
use Rattle.law_ids.proofs.BankFacts.{App-of, node_count-App, take_next, take_all}

-- one tree more is to be written
pub wholes-push : (trees : List Tree) (tree : Tree) (more : List Piece) → wholes_onto (trees ++ tree ∷ []) more ≡ whole tree ∷ wholes_onto trees more
wholes-push [] tree more = refl
wholes-push (t ∷ trees) tree more = wholes-push trees tree (whole t ∷ more)

completed-wholes : (trees : List Tree) (more : List Piece) (done : List Tree) → completed (wholes_onto trees more) done ≡ completed more (trees ++ done)
completed-wholes [] more done = refl
completed-wholes (t ∷ trees) more done = completed-wholes trees (whole t ∷ more) done

steps-wholes : (trees : List Tree) (more : List Piece) → steps_of (wholes_onto trees more) ≡ 2 * total (map node_count trees) + steps_of more
steps-wholes [] more = omega arith
steps-wholes (t ∷ trees) more = let next : steps_of (wholes_onto trees (whole t ∷ more)) ≡ 2 * total (map node_count trees) + steps_of (whole t ∷ more) = steps-wholes trees (whole t ∷ more) in omega arith

take-front : (xs ys : List Tree) → take (length xs) (xs ++ ys) ≡ xs
take-front [] ys = refl
take-front (x ∷ xs) ys = ap (λ l. x ∷ l) (take-front xs ys)

drop-front : (xs ys : List Tree) → drop (length xs) (xs ++ ys) ≡ ys
drop-front [] ys = refl
drop-front (x ∷ xs) ys = drop-front xs ys

-- a tree that gave way to its fields
pub opened_same : (tree : Tree) (old new : List Piece) (done : List Tree) → IsOpened tree old new → completed new done ≡ completed (whole tree ∷ old) done
opened_same tree old new done opened =
    let fs = fields_of tree in
    ap (λ l. completed l done) opened.is ∙ completed-wholes fs (join opened.head (length fs) ∷ old) done
    ∙ ap (λ l. completed old (App opened.head l ∷ drop (length fs) (fs ++ done))) (take-front fs done)
    ∙ ap (λ l. completed old (App opened.head fs ∷ l)) (drop-front fs done)
    ∙ ap (λ t. completed old (t ∷ done)) (App-of tree opened.head opened.named)

pub opened_falls : (tree : Tree) (old new : List Piece) → IsOpened tree old new → steps_of new < steps_of (whole tree ∷ old)
opened_falls tree old new opened =
    let fs = fields_of tree in
    let count : node_count tree ≡ 1 + total (map node_count fs) = ap node_count (sym (App-of tree opened.head opened.named)) ∙ node_count-App opened.head fs in
    let now : steps_of new ≡ 2 * total (map node_count fs) + steps_of (join opened.head (length fs) ∷ old) = ap steps_of opened.is ∙ steps-wholes fs (join opened.head (length fs) ∷ old) in
    omega arith

-- the next of a list's items, and those after it
pub next_item : (xs : List Tree) (at : ℕ) (x : Tree) (rest : List Tree) → drop at xs ≡ x ∷ rest → (slice_get xs at ≡ Some x) × (drop (at + 1) xs ≡ rest)
next_item [] zero x rest e = cc
next_item [] (suc n) x rest e = cc
next_item (y ∷ xs) zero x rest e = (ap Some (let is : y ≡ x = cc in is), let is : xs ≡ rest = cc in is)
next_item (y ∷ xs) (suc n) x rest e =
    let found = next_item xs n x rest e in
    let next : suc n + 1 ≡ suc (n + 1) = omega arith in
    (found.0, ap (λ k. drop k (y ∷ xs)) next ∙ found.1)

-- no items are left
pub no_item : (xs : List Tree) (at : ℕ) → drop at xs ≡ [] → (take (at + 1) xs ≡ take at xs) × (drop (at + 1) xs ≡ [])
no_item [] zero e = (refl, refl)
no_item [] (suc n) e =
    let next : suc n + 1 ≡ suc (n + 1) = omega arith in
    (ap (λ k. take k []) next, ap (λ k. drop k []) next)
no_item (x ∷ xs) zero e = cc
no_item (x ∷ xs) (suc n) e =
    let below = no_item xs n e in
    let next : suc n + 1 ≡ suc (n + 1) = omega arith in
    (ap (λ k. take k (x ∷ xs)) next ∙ ap (λ l. x ∷ l) below.0, ap (λ k. drop k (x ∷ xs)) next ∙ below.1)

-- while a tree gives way to its fields, so many of them are put
pub record IsOpening (bank : List Tree) (tree : Tree) (at count : ℕ) (old : List Piece) (parts : List Part) : Type 0 where
  pub head : SymId
  pub named : head_of tree ≡ Some head
  pub is : pieces bank parts ≡ wholes_onto (take at (fields_of tree)) (join head count ∷ old)
  pub held : Each (IsPartOf bank) (tops (λ p. p) parts)

-- one field more
pub opening_next : (bank : List Tree) (tree : Tree) (at count : ℕ) (old : List Piece) (parts new : List Part) (v : ValueId) → IsOpening bank tree at count old parts
    → new ≡ parts ++ part.Whole v ∷ [] → IsOf bank v → slice_get (fields_of tree) at ≡ Some (tree_of bank v) → IsOpening bank tree (at + 1) count old new
opening_next bank tree at count old parts new v opening e held get = record {
  head = opening.head;
  named = opening.named;
  is = pushed (piece_of bank) parts new (part.Whole v) e ∙ ap (λ l. whole (tree_of bank v) ∷ l) opening.is
      ∙ sym (wholes-push (take at (fields_of tree)) (tree_of bank v) (join opening.head count ∷ old))
      ∙ ap (λ l. wholes_onto l (join opening.head count ∷ old)) (sym (take_next (fields_of tree) at (tree_of bank v) get));
  held = subst (Each (IsPartOf bank)) (sym (pushed (λ p. p) parts new (part.Whole v) e)) (held, opening.held);
}

-- all fields are put
pub opening_done : (bank : List Tree) (tree : Tree) (at count : ℕ) (old : List Piece) (parts : List Part) → IsOpening bank tree at count old parts → count ≤ at → count ≡ length (fields_of tree)
    → IsOpened tree old (pieces bank parts)
opening_done bank tree at count old parts opening past all = record {
  head = opening.head;
  named = opening.named;
  is = opening.is ∙ ap (λ l. wholes_onto l (join opening.head count ∷ old)) (take_all (fields_of tree) at (omega arith)) ∙ ap (λ n. wholes_onto (fields_of tree) (join opening.head n ∷ old)) all;
}

-- a part that was done
pub opened_on : (bank : List Tree) (tree : Tree) (old new : List Piece) (done : List Tree) (parts : List Part) → IsOpened tree old new → new ≡ pieces bank parts
    → Each (IsPartOf bank) (tops (λ p. p) parts) → IsAdvanced bank (whole tree ∷ old) done parts done
opened_on bank tree old new done parts opened e held = record {
  held = held;
  same = ap (λ l. completed l done) (sym e) ∙ opened_same tree old new done opened;
  falls = subst (λ l. steps_of l < steps_of (whole tree ∷ old)) e (opened_falls tree old new opened);
}

-- one part is done
pub writing_on : (bank : List Tree) (tree : Tree) (p : Part) (parts left new : List Part) (done done' : List Tree) → IsWriting bank tree parts done → parts ≡ left ++ p ∷ []
    → IsAdvanced bank (piece_of bank p ∷ pieces bank left) done new done' → IsWriting bank tree new done'
writing_on bank tree p parts left new done done' writing e advanced = record {
  held = advanced.held;
  rest = advanced.same ∙ ap (λ l. completed l done) (sym (pushed (piece_of bank) left parts p e)) ∙ writing.rest;
}

-- nothing is left to do: the one tree that is written is the value's
pub written : (bank : List Tree) (tree found : Tree) (parts : List Part) (done rest : List Tree) → IsWriting bank tree parts (tops (λ t. t) done) → length parts ≡ 0
    → done ≡ rest ++ found ∷ [] → found ≡ tree
written bank tree found parts done rest writing none e =
    let all : tops (λ t. t) done ≡ tree ∷ [] = ap (λ l. completed l (tops (λ t. t) done)) (sym (none_left (piece_of bank) parts none)) ∙ writing.rest in
    let first : found ∷ tops (λ t. t) rest ≡ tree ∷ [] = sym (pushed (λ t. t) rest done found e) ∙ all in
    cc

pub on_both : {T E : Type 0} (P Q R : Type 0) (r : Result T E) → (P → Q → R) → OnOk r P → OnOk r Q → OnOk r R
on_both P Q R (Ok x) f p q = f p q
on_both P Q R (Err e) f p q = tt
