-- A walk over the different nodes of a term, in which each node comes after its arguments. What is left to do is a stack, and a
-- table has what each node that is done was changed to.
use Rattle.std.specs.Prelude.{◌≡◌, ◌⊎◌, ℕ, ◌+◌, ◌*◌, List, [], ◌∷◌, map, Option, IsSome, Bool, ◌==◌, ◌++◌, Some, if◌then◌else◌, min, ◌-◌, ◌^◌}
use Rattle.std.specs.Map.{lookup}
use Rattle.indexmap.specs.IndexMap.{insert_entry}
use denote.Bor.{Bor}
use Rattle.law_sig.specs.Lists.{In, Each, total}
use Rattle.law_sig.specs.Trees.{Subst, substituted, node_count, same_sort, holes}
use Rattle.law_sig.specs.declared.tree.SortId.{SortId}
use Rattle.law_sig.specs.declared.tree.Tree.TheVariants as tree
use Rattle.law_bank.specs.declared.node.Head.{Head}
use Rattle.law_bank.specs.declared.node.Head.TheVariants.{Var, Sym}
use Rattle.law_bank.specs.declared.node.Node.{Node, out-Node}
use Rattle.law_bank.specs.Terms.{tree_of, trees_of, id_of}
use Rattle.law_bank.specs.Bank.{Terms, IsOf, Grows}
use Rattle.law_bank.specs.Bindings.{subst_of, AllBound}
use Rattle.law_rewriting.specs.Pairs.{firsts}
use Rattle.law_term.specs.declared.change.Change.{Change}
use Rattle.law_term.specs.declared.change.Change.TheVariants as change
use Rattle.law_term.specs.declared.walk.Visit.{Visit}
use Rattle.law_term.specs.declared.walk.Visit.TheVariants as visit
use Rattle.law_term.specs.Variables.{Variable, indices, holes_in}
use Rattle.law_term.specs.Tables.{place_by}

-- what is put for each variable. An index that would pass 2^32 - 1 stops there
abbrev pub meaning : Change → Subst
meaning change.Flat sort index = tree.Var sort 0
meaning (change.Shift by) sort index = tree.Var sort (min (index + by) (2 ^ 32 - 1))
meaning (change.Bind bindings) sort index = subst_of bindings.now sort index
meaning (change.Renumber places) sort index = tree.Var sort (place_by places.now.entries sort index)

-- the terms that are put are of the bank
abbrev pub IsChange : Terms → Change → Type 0
IsChange bank change.Flat = Unit {0}
IsChange bank (change.Shift by) = Unit {0}
IsChange bank (change.Bind bindings) = AllBound bank bindings.now
IsChange bank (change.Renumber places) = Unit {0}

-- the table: an id, and the term that its node was changed to
abbrev pub Done : Type 0
Done = List (ℕ × Bor Node)

abbrev pub same_id : ℕ → ℕ → Bool
same_id i j = i == j

abbrev pub found : Done → ℕ → Option (Bor Node)
found done id = lookup (same_id id) done

-- all terms of the table are of the bank
abbrev pub AllMade : Terms → Done → Type 0
AllMade bank done = Each (λ (e : ℕ × Bor Node). IsOf bank e.1.now) done

-- and each is the change of the node with its id
abbrev pub IsChanged : Terms → Subst → ℕ × Bor Node → Type 0
IsChanged start σ e = (n : Node) → IsOf start n → id_of n ≡ e.0 → tree_of e.1.now ≡ substituted σ (tree_of n)

abbrev pub AllChanged : Terms → Subst → Done → Type 0
AllChanged start σ done = Each (IsChanged start σ) done

-- the node of a visit
abbrev pub node_of : Visit → Bor Node
node_of (visit.Enter n) = n
node_of (visit.Leave n) = n

abbrev pub visit_id : Visit → ℕ
visit_id v = id_of (node_of v).now

abbrev pub IsVisit : Terms → Visit → Type 0
IsVisit start v = IsOf start (node_of v).now

-- a node is done, or it is visited among these
abbrev pub IsCovered : Done → List Visit → ℕ → Type 0
IsCovered done visits id = IsSome (found done id) ⊎ In id (map visit_id visits)

-- a node is left only once its arguments are done: they are, or stand above it
abbrev pub NeedsArgs : Done → List Visit → Visit → Type 0
NeedsArgs done above (visit.Enter n) = Unit {0}
NeedsArgs done above (visit.Leave n) = Each (λ (a : Bor Node). IsCovered done above (id_of a.now)) (out-Node n.now).args.now

abbrev pub IsReady : Done → List Visit → Type 0
IsReady done [] = Unit {0}
IsReady done (v ∷ above) = NeedsArgs done above v × IsReady done above

-- how many steps are left at most
abbrev pub cost : Visit → ℕ
cost (visit.Enter n) = 2 * node_count (tree_of n.now)
cost (visit.Leave n) = 1

abbrev pub steps : List Visit → ℕ
steps visits = total (map cost visits)

-- while a term is changed
pub record IsWalking (start now : Terms) (σ : Subst) (term : Node) (done : Done) (visits : List Visit) : Type 0 where
  pub grows : Grows start now
  pub made : AllMade now done
  pub changed : AllChanged start σ done
  pub visited : Each (IsVisit start) visits
  pub ready : IsReady done visits
  pub covered : IsCovered done visits (id_of term)

-- terms that are to be entered, the first of them on top
abbrev pub entered : List (Bor Node) → List Visit
entered [] = []
entered (term ∷ terms) = entered terms ++ visit.Enter term ∷ []

-- a node was entered: it is done already, or it is to be left after its arguments
abbrev pub IsEntered : Done → Bor Node → List Visit → List Visit → Type 0
IsEntered done term old new = (IsSome (found done (id_of term.now)) × (new ≡ old))
    ⊎ (new ≡ old ++ visit.Leave term ∷ entered (out-Node term.now).args.now)

-- a node was left: the table has what it was changed to
pub record IsLeft (now : Terms) (σ : Subst) (term : Bor Node) (old new : Done) : Type 0 where
  pub made : Bor Node
  pub noted : new ≡ insert_entry same_id old (id_of term.now) made
  pub finds : (id : ℕ) → found new id ≡ (if same_id (id_of term.now) id then Some made else found old id)
  pub held : IsOf now made.now
  pub is : (start : Terms) → IsOf start term.now → AllChanged start σ old → tree_of made.now ≡ substituted σ (tree_of term.now)

-- Listing variables

-- the index that a variable adds to those of a sort
abbrev pub own_hole : SortId → Head → List ℕ
own_hole s (Var u i) = if same_sort u s then i ∷ [] else []
own_hole s (Sym f) = []

-- the holes of a sort that a visit passes, and those that all do from the top on: a variable is noted as it is left
abbrev pub holes_at : SortId → Visit → List ℕ
holes_at s (visit.Enter n) = holes s (tree_of n.now)
holes_at s (visit.Leave n) = own_hole s (out-Node n.now).head

abbrev pub holes_left : SortId → List Visit → List ℕ
holes_left s [] = []
holes_left s (v ∷ above) = holes_left s above ++ holes_at s v

-- a head was noted, its variable behind those that were
abbrev pub IsHeadNoted : Head → List Variable → List Variable → Type 0
IsHeadNoted (Var s i) old new = new ≡ old ++ (s, i) ∷ []
IsHeadNoted (Sym f) old new = new ≡ old

-- a node that wasn't done was left: its head is noted, and the node is done
pub record IsNewlyNoted (n : Bor Node) (old new : Done) (was are : List Variable) : Type 0 where
  pub fresh : IsSome (found old (id_of n.now)) → ⊥
  pub head : IsHeadNoted (out-Node n.now).head was are
  pub noted : new ≡ insert_entry same_id old (id_of n.now) n
  pub finds : (id : ℕ) → found new id ≡ (if same_id (id_of n.now) id then Some n else found old id)

-- a node was left: it was done already, or it is done now
abbrev pub IsNoted : Bor Node → Done → Done → List Variable → List Variable → Type 0
IsNoted n old new was are = (IsSome (found old (id_of n.now)) × (new ≡ old) × (are ≡ was)) ⊎ IsNewlyNoted n old new was are

-- all variables of the nodes that are done are listed
abbrev pub IsListed : Terms → List Variable → ℕ × Bor Node → Type 0
IsListed bank vs e = (n : Node) → IsOf bank n → id_of n ≡ e.0 → (s : SortId) → Each (λ i. In i (indices s vs)) (holes s (tree_of n))

-- a variable that is listed is that of a node that is done
pub record IsKnown (bank : Terms) (done : Done) (v : Variable) : Type 0 where
  pub node : Node
  pub held : IsOf bank node
  pub is : tree_of node ≡ tree.Var v.0 v.1
  pub left : IsSome (found done (id_of node))

-- while the variables of terms are listed
pub record IsListing (bank : Terms) (terms : List (Bor Node)) (done : Done) (visits : List Visit) (vs : List Variable) : Type 0 where
  pub visited : Each (IsVisit bank) visits
  pub ready : IsReady done visits
  pub listed : Each (IsListed bank vs) done
  pub known : Each (IsKnown bank done) vs
  pub once : (s : SortId) → firsts (indices s vs) ≡ indices s vs
  pub whole : (s : SortId) → firsts (indices s vs ++ holes_left s visits) ≡ firsts (holes_in s (trees_of terms))
