-- The table of constructors that may be chosen, and the room for nodes.
use Rattle.std.proofs.Common.{◌≡◌, ℕ, ◌+◌, ◌-◌, ◌<◌, ◌≤◌, List, [], ◌∷◌, length, map, slice_index_or, sym, ap, ◌∙◌, subst, arith, ltb-true, lt-ltb, ◌++◌}
use Rattle.law_sig.specs.Lists.{Each, total}
use Rattle.law_sig.specs.Trees.{node_count}
use Rattle.law_sig.specs.WellFormed.{IsDeclared}
use Rattle.law_sig.specs.declared.tree.SortId.{SortId}
use Rattle.law_sig.specs.declared.tree.SymId.{SymId}
use Rattle.law_sig.specs.declared.tree.Tree.{Tree}
use Rattle.law_sig.specs.declared.tree.Tree.TheVariants.{App}
use Rattle.law_sig.specs.declared.parts.SigParts.{SigParts}
use Rattle.law_laws.proofs.TreeFacts.{tree_cases, nodes-Var, nodes-App}
use Rattle.law_draws.specs.Draws.{choices}
use Rattle.law_draws.specs.Choices.{level_of}
use Rattle.law_gen.specs.Made.{IsReady, WhereLarge}
use Rattle.law_gen.specs.declared.error.Stop.{Stop}
use Rattle.law_gen.specs.declared.error.Stop.TheVariants as stop
use Rattle.law_draws.proofs.First.{first_at, length_first}
use Rattle.law_gen.proofs.Turns.{map_append, total_middle, total_more}
use Rattle.law_draws.proofs.DrawFacts.{each_index}

-- The table

pub height_within : (parts : SigParts) (height : ℕ) (table a : List (List (List SymId))) → IsReady parts height table → a ≡ table → height < length a
height_within parts height table a ready is =
    let count : length a ≡ ready.top + 1 = ap length (is ∙ ready.right) ∙ length_first (ready.top + 1) (level_of parts) in
    omega (arith, ready.within)

level_is : (parts : SigParts) (height : ℕ) (table a : List (List (List SymId))) (r : List (List SymId)) → IsReady parts height table → a ≡ table → r ≡ slice_index_or a height r → r ≡ level_of parts height
level_is parts height table a r ready is at =
    at ∙ ap (λ l. slice_index_or l height r) (is ∙ ready.right) ∙ first_at (ready.top + 1) (level_of parts) height r (omega (arith, ready.within))

pub sort_within : (parts : SigParts) (height : ℕ) (sort : SortId) (table a : List (List (List SymId))) (r level : List (List SymId)) → IsReady parts height table → IsDeclared parts sort
    → a ≡ table → r ≡ slice_index_or a height r → level ≡ r → sort.0 < length level
sort_within parts height sort table a r level ready declared is at same =
    let count : length level ≡ length parts.sort_names =
    ap length (same ∙ level_is parts height table a r ready is at) ∙ length_first (length parts.sort_names) (λ n. choices parts height (record { 0 = n })) in
    omega (arith, ltb-true sort.0 (length parts.sort_names) declared)

pub looked_up : (parts : SigParts) (height : ℕ) (sort : SortId) (table a : List (List (List SymId))) (r level : List (List SymId)) (q among : List SymId)
    → IsReady parts height table → IsDeclared parts sort → a ≡ table → r ≡ slice_index_or a height r → level ≡ r → q ≡ slice_index_or level sort.0 q → among ≡ q
    → among ≡ choices parts height sort
looked_up parts height sort table a r level q among ready declared is at same at_sort is_among =
    is_among ∙ at_sort ∙ ap (λ l. slice_index_or l sort.0 q) (same ∙ level_is parts height table a r ready is at)
    ∙ first_at (length parts.sort_names) (λ n. choices parts height (record { 0 = n })) sort.0 q (ltb-true sort.0 (length parts.sort_names) declared)

-- The room for nodes

pub some_node : (t : Tree) → 1 ≤ node_count t
some_node = tree_cases (λ t. 1 ≤ node_count t) (λ s i. omega (arith, nodes-Var s i)) (λ f args. omega (arith, nodes-App f args))

-- a field without room is a value without room
pub large_field : (whole v : Tree) (f : SymId) (fields done others : List Tree) (old first room : ℕ) → whole ≡ App f fields → fields ≡ done ++ v ∷ others
    → first ≡ old - 1 → 1 ≤ old → first ≡ total (map node_count done) + room → room < node_count v → old < node_count whole
large_field whole v f fields done others old first room is_whole is_fields is_first some taken less =
    let count : node_count whole ≡ 1 + total (map node_count fields) = ap node_count is_whole ∙ nodes-App f fields in
    let parts : map node_count fields ≡ map node_count done ++ node_count v ∷ map node_count others = ap (map node_count) is_fields ∙ map_append node_count done (v ∷ others) in
    let most : total (map node_count done) + node_count v ≤ total (map node_count fields) =
    subst (λ l. total (map node_count done) + node_count v ≤ total l) (sym parts) (total_middle (map node_count done) (map node_count others) (node_count v)) in
    omega arith

-- a field takes its nodes from the room
pub room_more : (first room left : ℕ) (done more : List Tree) (v w : Tree) → first ≡ total (map node_count done) + room → more ≡ done ++ v ∷ [] → v ≡ w → room ≡ node_count w + left
    → first ≡ total (map node_count more) + left
room_more first room left done more v w taken is same here =
    let count : total (map node_count more) ≡ total (map node_count done) + node_count v =
    ap (λ l. total (map node_count l)) is ∙ ap total (map_append node_count done (v ∷ [])) ∙ total_more (map node_count done) (node_count v) in
    omega (arith, ap node_count same)

-- a value takes 1 and the nodes of its fields
pub room_whole : (whole : Tree) (f : SymId) (fields done : List Tree) (old first room : ℕ) → whole ≡ App f fields → fields ≡ done → first ≡ old - 1 → 1 ≤ old
    → first ≡ total (map node_count done) + room → old ≡ node_count whole + room
room_whole whole f fields done old first room is_whole same is_first some taken =
    let count : node_count whole ≡ 1 + total (map node_count fields) = ap node_count is_whole ∙ nodes-App f fields in
    omega (arith, ap (λ l. total (map node_count l)) same)

pub large_on : (P Q : Type 0) → (P → Q) → (e : Stop) → WhereLarge P e → WhereLarge Q e
large_on P Q f stop.TooLarge h = f h
large_on P Q f stop.NoMemory h = tt

pub sort_declared : (parts : SigParts) (sorts : List SortId) (at : ℕ) (d : SortId) → Each (λ (s : SortId). s.0 < length parts.sort_names) sorts → at < length sorts
    → IsDeclared parts (slice_index_or sorts at d)
sort_declared parts sorts at d declared within =
    lt-ltb (slice_index_or sorts at d).0 (length parts.sort_names) (each_index (λ (s : SortId). s.0 < length parts.sort_names) sorts at d declared within)

pub lower : (parts : SigParts) (height : ℕ) (table : List (List (List SymId))) → IsReady parts height table → IsReady parts (height - 1) table
lower parts height table ready = record { well_formed = ready.well_formed; top = ready.top; within = omega (arith, ready.within); right = ready.right }
