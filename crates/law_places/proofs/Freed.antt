-- What the grammar spells it spells without its bounds.
use Rattle.std.proofs.Common.{◌≡◌, ℕ, ◌^◌, Bool, true, false, ◌&&◌, List, [], ◌∷◌, refl, ap, sym, subst, ◌∙◌, map, length, nat_lt}
use Rattle.std.specs.List.{list_all, AllByRecursion}
use Rattle.law_lines.specs.Words.{is_word_of_letters}
use Rattle.law_lines.specs.declared.raw.RawHead.{RawHead}
use Rattle.law_lines.specs.declared.raw.RawHead.TheVariants.{Name, Var, Param, Field}
use Rattle.law_lines.specs.declared.raw.RawTerm.{RawTerm}
use Rattle.law_lines.specs.declared.raw.RawTerm.TheOpen.{RawTerm-F}
use Rattle.law_lines.specs.declared.raw.RawTerm.TheFolds.{fold-roll-RawTerm, ind-RawTerm, map-RawTerm}
use Rattle.law_lines.specs.declared.raw.RawTerm.TheViews.{roll-RawTerm}
use Rattle.law_lines.specs.declared.raw.RawLine.{RawLine}
use Rattle.law_lines.specs.declared.raw.RawLine.TheVariants as l
use Rattle.law_lines.specs.declared.want.Bounds.TheVariants.{Kept, Free}
use Rattle.law_lines.specs.declared.want.Place.{Place}
use Rattle.law_lines.specs.declared.want.Place.TheVariants as p
use Rattle.law_lines.specs.Terms.{IsTerm, head_fits, is_empty, is_name_in, node_fits, nodes_fit, within}
use Rattle.law_lines.specs.Lines.{AreSorts, AreValues, IsLine}
use Rattle.law_lines.proofs.Again.{and_true, letters_in}
use Rattle.law_lines.proofs.RowSteps.{both}

name_freed : (name : List ℕ) → is_name_in Kept name ≡ true → is_name_in Free name ≡ true
name_freed name h = and_true (is_word_of_letters name) true (letters_in Kept name h) refl

names_freed : (names : List (List ℕ)) → list_all (is_name_in Kept) names ≡ true → list_all (is_name_in Free) names ≡ true
names_freed [] h = refl
names_freed (x ∷ names) h = let q = both (is_name_in Kept x) (list_all (is_name_in Kept) names) h in and_true (is_name_in Free x) (list_all (is_name_in Free) names) (name_freed x q.0) (names_freed names q.1)

head_freed : (place : Place) (head : RawHead) (alone : Bool) → head_fits Kept place head alone ≡ true → head_fits Free place head alone ≡ true
head_freed place (Name name) alone h = name_freed name h
head_freed p.Equation (Var sort index) true h = let q = both (is_name_in Kept sort) (nat_lt index (2 ^ 32)) h in and_true (is_name_in Free sort) (nat_lt index (2 ^ 32)) (name_freed sort q.0) q.1
head_freed p.Body (Param n) true h = h
head_freed p.Body (Field n) true h = h
head_freed p.Equation (Var sort index) false h = absurd cc
head_freed p.Body (Param n) false h = absurd cc
head_freed p.Body (Field n) false h = absurd cc
head_freed p.Equation (Param n) alone h = absurd cc
head_freed p.Equation (Field n) alone h = absurd cc
head_freed p.Body (Var sort index) alone h = absurd cc
head_freed p.Value (Var sort index) alone h = absurd cc
head_freed p.Value (Param n) alone h = absurd cc
head_freed p.Value (Field n) alone h = absurd cc

abbrev Freed : RawTerm → Type 0
Freed term = (place : Place) → nodes_fit Kept place term ≡ true → nodes_fit Free place term ≡ true

args_freed : (place : Place) (terms : List RawTerm) → AllByRecursion Freed terms → list_all (λ b. b) (map (nodes_fit Kept place) terms) ≡ true → list_all (λ b. b) (map (nodes_fit Free place) terms) ≡ true
args_freed place [] all h = refl
args_freed place (x ∷ terms) all h =
    let q = both (nodes_fit Kept place x) (list_all (λ b. b) (map (nodes_fit Kept place) terms)) h in
    and_true (nodes_fit Free place x) (list_all (λ b. b) (map (nodes_fit Free place) terms)) (all.0 place q.0) (args_freed place terms all.1 q.1)

same_empty : (place : Place) (terms : List RawTerm) → is_empty (map (nodes_fit Kept place) terms) ≡ is_empty (map (nodes_fit Free place) terms)
same_empty place [] = refl
same_empty place (x ∷ terms) = refl

layer_freed : (head : RawHead) (terms : List RawTerm) → AllByRecursion Freed terms → Freed (roll-RawTerm (record { head = head; args = terms }))
layer_freed head terms all = λ place h.
    let layer : RawTerm-F RawTerm = record { head = head; args = terms } in
    let fits = map (nodes_fit Kept place) terms in
    let free = map (nodes_fit Free place) terms in
    let f = both (head_fits Kept place head (is_empty fits)) (within Kept 8 (length fits) && list_all (λ b. b) fits) (sym (fold-roll-RawTerm Bool (node_fits Kept place) layer) ∙ h) in
    let g = both (within Kept 8 (length fits)) (list_all (λ b. b) fits) f.1 in
    fold-roll-RawTerm Bool (node_fits Free place) layer
    ∙ and_true (head_fits Free place head (is_empty free)) (list_all (λ b. b) free)
    (head_freed place head (is_empty free) (ap (head_fits Kept place head) (sym (same_empty place terms)) ∙ f.0)) (args_freed place terms all g.1)

all_of : (pairs : List ((t : RawTerm) × Freed t)) → AllByRecursion Freed (map (λ q. q.0) pairs)
all_of [] = tt
all_of (pair ∷ pairs) = (pair.1, all_of pairs)

freed_step : (y : RawTerm-F ((t : RawTerm) × Freed t)) → Freed (roll-RawTerm (map-RawTerm ((t : RawTerm) × Freed t) RawTerm (λ q. q.0) y))
freed_step y = layer_freed y.head (map (λ q. q.0) y.args) (all_of y.args)

nodes_freed : (term : RawTerm) → Freed term
nodes_freed = ind-RawTerm Freed (λ x y is. subst (λ z. Freed (roll-RawTerm z)) is (freed_step y))

pub term_freed : (place : Place) (term : RawTerm) → IsTerm Kept place term → IsTerm Free place term
term_freed place term h = record { nodes = nodes_freed term place h.nodes; size = refl; deep = refl }

values_freed : (terms : List RawTerm) → AreValues Kept terms → AreValues Free terms
values_freed [] h = tt
values_freed (x ∷ terms) h = (term_freed p.Value x h.0, values_freed terms h.1)

sorts_freed : (sorts : List (List ℕ)) → AreSorts Kept sorts → AreSorts Free sorts
sorts_freed sorts h = record { names = names_freed sorts h.names; few = refl }

pub line_freed : (line : RawLine) → IsLine Kept line → IsLine Free line
line_freed l.Head h = h
line_freed l.Head2 h = h
line_freed l.Head3 h = h
line_freed (l.Vars n) h = h
line_freed (l.Size n) h = h
line_freed (l.Width n) h = h
line_freed (l.Budget n) h = h
line_freed (l.Pairs n) h = h
line_freed l.PoolsGiven h = h
line_freed (l.PoolsSeed seed height count) h = h
line_freed (l.SortLine name) h = name_freed name h
line_freed (l.SortLine2 name vars width) h = (name_freed name h.0, h.1, h.2)
line_freed (l.ConLine name args) h = (name_freed name h.0, sorts_freed args h.1)
line_freed (l.ConLine3 weight name args) h = (h.0, name_freed name h.1, sorts_freed args h.2)
line_freed (l.FunLine name args result) h = (name_freed name h.0, sorts_freed args h.1, name_freed result h.2)
line_freed (l.FunLine3 weight name args result) h = (h.0, name_freed name h.1, sorts_freed args h.2, name_freed result h.3)
line_freed (l.MatchLine n) h = h
line_freed (l.BodyLine body) h = term_freed p.Body body h
line_freed (l.CaseLine con body) h = (name_freed con h.0, term_freed p.Body body h.1)
line_freed (l.Explore names) h = names_freed names h
line_freed (l.Background left right) h = (term_freed p.Equation left h.0, term_freed p.Equation right h.1)
line_freed l.Pool h = h
line_freed (l.Values sort values) h = (name_freed sort h.0, h.1, values_freed values h.2)
line_freed l.End h = h

pub lines_freed : (lines : List RawLine) → AllByRecursion (IsLine Kept) lines → AllByRecursion (IsLine Free) lines
lines_freed [] h = tt
lines_freed (line ∷ lines) h = (line_freed line h.0, lines_freed lines h.1)
