-- What applying a symbol to values gives, and what it costs, computed from a number that bounds the depth of calls.
use Rattle.std.specs.Prelude.{ℕ, zero, suc, ◌+◌, List, [], ◌∷◌, Option, Some, None, slice_get, option_map, option_and_then, nat_le, if◌then◌else◌}
use Rattle.std.specs.List.{position_from}
use Rattle.law_sig.specs.Trees.{same_symbol}
use Rattle.law_sig.specs.Signature.{symbol_at, constructors}
use Rattle.law_sig.specs.declared.tree.SortId.{SortId}
use Rattle.law_sig.specs.declared.tree.SymId.{SymId}
use Rattle.law_sig.specs.declared.tree.Tree.{Tree}
use Rattle.law_sig.specs.declared.tree.Tree.TheOpen.{Tree-F}
use Rattle.law_sig.specs.declared.tree.Tree.TheOpen as o
use Rattle.law_sig.specs.declared.tree.Tree.TheVariants.{App}
use Rattle.law_sig.specs.declared.tree.Tree.TheViews.{out-Tree}
use Rattle.law_sig.specs.declared.tree.Body.{Body}
use Rattle.law_sig.specs.declared.tree.Body.TheOpen.{Body-F}
use Rattle.law_sig.specs.declared.tree.Body.TheOpen as b
use Rattle.law_sig.specs.declared.tree.Body.TheFolds.{fold-Body}
use Rattle.law_sig.specs.declared.parts.Fun.{Fun}
use Rattle.law_sig.specs.declared.parts.Sym.{Sym}
use Rattle.law_sig.specs.declared.parts.Sym.TheVariants as sym
use Rattle.law_sig.specs.declared.parts.SigParts.{SigParts}

-- a value, and what it cost to make
pub record Made : Type 0 where
  pub value : Tree
  pub cost : ℕ

-- a list of values, and what it cost to make them all
pub record MadeAll : Type 0 where
  pub values : List Tree
  pub cost : ℕ

-- Which body a function takes, and with which fields

pub record Chosen : Type 0 where
  pub body : Body
  pub fields : List Tree

-- the body of the matched value's constructor, with the value's fields
abbrev pub chosen_case : SigParts → Fun → SortId → Tree-F Tree → Option Chosen
chosen_case parts fun sort (o.Var s index) = None
chosen_case parts fun sort (o.App head fields) =
    option_and_then (λ at. option_map (λ body. record { body = body; fields = fields }) (slice_get fun.cases at))
    (position_from (same_symbol head) 0 (constructors parts sort))

abbrev pub chosen_at : SigParts → Fun → Option ℕ → List Tree → Option Chosen
chosen_at parts fun None args = option_map (λ body. record { body = body; fields = [] }) (slice_get fun.cases 0)
chosen_at parts fun (Some place) args =
    option_and_then (λ sort. option_and_then (λ value. chosen_case parts fun sort (out-Tree value)) (slice_get args place))
    (slice_get fun.args place)

abbrev pub chosen : SigParts → Fun → List Tree → Option Chosen
chosen parts fun args = chosen_at parts fun fun.place args

-- What a body gives

-- the values that a body may name, and what applying a symbol gives
pub record Frame : Type 0 where
  pub fields : List Tree
  pub params : List Tree
  pub called : SymId → List Tree → Option Made

-- a value that costs nothing
abbrev pub free : Option Tree → Option Made
free None = None
free (Some value) = Some (record { value = value; cost = 0 })

-- a value that costs so much more
abbrev pub costing : ℕ → Option Made → Option Made
costing more None = None
costing more (Some made) = Some (record { value = made.value; cost = more + made.cost })

-- all of them, from left to right, and none where one is missing
abbrev pub all_more : Made → Option MadeAll → Option MadeAll
all_more first None = None
all_more first (Some rest) = Some (record { values = first.value ∷ rest.values; cost = first.cost + rest.cost })

abbrev pub all_made : List (Option Made) → Option MadeAll
all_made [] = Some (record { values = []; cost = 0 })
all_made (None ∷ others) = None
all_made (Some first ∷ others) = all_more first (all_made others)

abbrev pub making : SymId → Option MadeAll → Option Made
making f None = None
making f (Some args) = Some (record { value = App f args.values; cost = args.cost + 1 })

abbrev pub calling : Frame → SymId → Option MadeAll → Option Made
calling frame f None = None
calling frame f (Some args) = costing args.cost (frame.called f args.values)

-- a field or a parameter costs nothing, making costs its arguments and 1, a call its arguments and the application
abbrev pub body_step : Frame → Body-F (Option Made) → Option Made
body_step frame (b.Field number) = free (slice_get frame.fields number)
body_step frame (b.Param number) = free (slice_get frame.params number)
body_step frame (b.Make f args) = making f (all_made args)
body_step frame (b.Call f args) = calling frame f (all_made args)

abbrev pub evaluate : Frame → Body → Option Made
evaluate frame = fold-Body (Option Made) (body_step frame)

-- What a symbol gives

abbrev pub run_chosen : (SymId → List Tree → Option Made) → List Tree → Option Chosen → Option Made
run_chosen called args None = None
run_chosen called args (Some c) = costing 1 (evaluate (record { fields = c.fields; params = args; called = called }) c.body)

-- a constructor costs 1; a function costs 1 and its chosen body
abbrev pub apply_symbol : SigParts → (SymId → List Tree → Option Made) → SymId → List Tree → Option Sym → Option Made
apply_symbol parts called f args None = None
apply_symbol parts called f args (Some (sym.Con con)) = Some (record { value = App f args; cost = 1 })
apply_symbol parts called f args (Some (sym.Fun fun)) = run_chosen called args (chosen parts fun args)

-- applying a symbol, with calls nested at most so deep
unfoldable pub apply_within : SigParts → ℕ → SymId → List Tree → Option Made
apply_within parts zero f args = None
apply_within parts (suc deep) f args = apply_symbol parts (apply_within parts deep) f args (symbol_at parts f)

-- With a budget

abbrev pub within : ℕ → Option Made → Option Made
within budget None = None
within budget (Some made) = if nat_le made.cost budget then Some made else None

-- the value and the cost of an application where the cost is within the budget; none, which is called over, in every
-- other case. Each call costs at least 1, so the budget bounds the depth of calls too
abbrev pub ap : SigParts → SymId → List Tree → ℕ → Option Made
ap parts f args budget = within budget (apply_within parts budget f args)
