-- What a well-formed signature says of the body that a function takes.
use Rattle.std.proofs.Common.{◌≡◌, ℕ, zero, suc, ◌≤◌, List, [], ◌∷◌, Option, Some, None, slice_get, option_map, option_and_then, refl, sym, ap, subst, ◌∙◌}
use Rattle.std.specs.List.{position_from}
use Rattle.law_sig.specs.Lists.{Each}
use Rattle.law_sig.specs.Trees.{same_symbol}
use Rattle.law_sig.specs.Bodies.{body_nodes}
use Rattle.law_sig.specs.Signature.{symbol_at, constructors}
use Rattle.law_sig.specs.Evaluate.{Chosen, chosen_case, chosen_at, chosen}
use Rattle.law_sig.specs.WellFormed.{IsDeclared, IsBody, IsCase, AreCases, FitsPlace, IsWellFormed}
use Rattle.law_sig.specs.declared.tree.SortId.{SortId}
use Rattle.law_sig.specs.declared.tree.SymId.{SymId}
use Rattle.law_sig.specs.declared.tree.Tree.{Tree}
use Rattle.law_sig.specs.declared.tree.Tree.TheOpen as o
use Rattle.law_sig.specs.declared.tree.Tree.TheViews.{out-Tree}
use Rattle.law_sig.specs.declared.tree.Body.{Body}
use Rattle.law_sig.specs.declared.parts.Fun.{Fun}
use Rattle.law_sig.specs.declared.parts.Sym.{Sym}
use Rattle.law_sig.specs.declared.parts.Sym.TheVariants as sym_is
use Rattle.law_sig.specs.declared.parts.SigParts.{SigParts}

pub declared_args : (parts : SigParts) (f : SymId) (fun : Fun) → IsWellFormed parts → symbol_at parts f ≡ Some (sym_is.Fun fun) → Each (IsDeclared parts) fun.args
declared_args parts f fun well e = (well.symbols f (sym_is.Fun fun) e).args_declared

-- one of the function's bodies
record IsOneOf (cases : List Body) (body : Body) : Type 0 where
  at : ℕ
  is : slice_get cases at ≡ Some body

mapped : (cases : List Body) (at : ℕ) (fields : List Tree) (ch : Chosen)
    → option_map (λ (body : Body). let c : Chosen = record { body = body; fields = fields } in c) (slice_get cases at) ≡ Some ch → IsOneOf cases ch.body
mapped cases at fields ch e = by (slice_get cases at) refl e
  where
    same : (x y : Chosen) → ◌≡◌ {A = Option Chosen} (Some x) (Some y) → x ≡ y
    same x y e = cc

    by : (o : Option Body) → slice_get cases at ≡ o → option_map (λ (body : Body). let c : Chosen = record { body = body; fields = fields } in c) o ≡ Some ch → IsOneOf cases ch.body
    by None k e = cc
    by (Some body) k e = record { at = at; is = k ∙ ap (λ (c : Chosen). Some c.body) (same (record { body = body; fields = fields }) ch e) }

from_case : (parts : SigParts) (fun : Fun) (sort : SortId) (layer : o.Tree-F Tree) (ch : Chosen) → chosen_case parts fun sort layer ≡ Some ch → IsOneOf fun.cases ch.body
from_case parts fun sort (o.Var s i) ch e = cc
from_case parts fun sort (o.App head fields) ch e = by (position_from (same_symbol head) 0 (constructors parts sort)) e
  where
    by : (o : Option ℕ) → option_and_then (λ at. option_map (λ (body : Body). let c : Chosen = record { body = body; fields = fields } in c) (slice_get fun.cases at)) o ≡ Some ch → IsOneOf fun.cases ch.body
    by None e = cc
    by (Some at) e = mapped fun.cases at fields ch e

from_value : (parts : SigParts) (fun : Fun) (sort : SortId) (value : Option Tree) (ch : Chosen) → option_and_then (λ v. chosen_case parts fun sort (out-Tree v)) value ≡ Some ch → IsOneOf fun.cases ch.body
from_value parts fun sort None ch e = cc
from_value parts fun sort (Some v) ch e = from_case parts fun sort (out-Tree v) ch e

from_place : (parts : SigParts) (fun : Fun) (sort : Option SortId) (value : Option Tree) (ch : Chosen)
    → option_and_then (λ s. option_and_then (λ v. chosen_case parts fun s (out-Tree v)) value) sort ≡ Some ch → IsOneOf fun.cases ch.body
from_place parts fun None value ch e = cc
from_place parts fun (Some s) value ch e = from_value parts fun s value ch e

case_is : (parts : SigParts) (P : List SortId → Body → Type 0) (Q : Body → Type 0) → ((fields : List SortId) (body : Body) → P fields body → Q body)
    → (cons : List SymId) (cases : List Body) → AreCases parts P cons cases → (at : ℕ) (body : Body) → slice_get cases at ≡ Some body → Q body
case_is parts P Q f [] [] are at body e = cc
case_is parts P Q f [] (c ∷ cases) are at body e = absurd are
case_is parts P Q f (k ∷ cons) [] are at body e = absurd are
case_is parts P Q f (k ∷ cons) (c ∷ cases) are zero body e = let is : c ≡ body = cc in subst Q is (of_symbol (symbol_at parts k) are.0)
  where
    of_symbol : (o : Option Sym) → IsCase P o c → Q c
    of_symbol None h = absurd h
    of_symbol (Some s) h = f _ c h
case_is parts P Q f (k ∷ cons) (c ∷ cases) are (suc n) body e = case_is parts P Q f cons cases are.1 n body e

only_case : (ch : Chosen) (body : Body) → body_nodes body ≤ 4096 → (at : ℕ) → slice_get (body ∷ []) at ≡ Some ch.body → body_nodes ch.body ≤ 4096
only_case ch body small zero k = let same : body ≡ ch.body = cc in subst (λ b. body_nodes b ≤ 4096) same small
only_case ch body small (suc n) k = cc

-- the body that a function takes is within the bounds of what is written
pub small_chosen : (parts : SigParts) (f : SymId) (fun : Fun) (args : List Tree) (ch : Chosen) → IsWellFormed parts → symbol_at parts f ≡ Some (sym_is.Fun fun)
    → chosen parts fun args ≡ Some ch → body_nodes ch.body ≤ 4096
small_chosen parts f fun args ch well declared is = by fun.place (well.symbols f (sym_is.Fun fun) declared).bodies is
  where
    by : (place : Option ℕ) → FitsPlace parts f fun place → chosen_at parts fun place args ≡ Some ch → body_nodes ch.body ≤ 4096
    by None fits e =
        let one = mapped fun.cases 0 [] ch e in
        only_case ch fits.0 fits.2.written.nodes_bound one.at (sym (ap (λ l. slice_get l one.at) fits.1) ∙ one.is)
    by (Some place) fits e =
        let one = from_place parts fun (slice_get fun.args place) (slice_get args place) ch e in
        let of_body = λ (fields : List SortId) (body : Body). IsBody parts (record { owner = f; place = Some place; fields = fields; params = fun.args }) fun.result body in
        case_is parts of_body (λ body. body_nodes body ≤ 4096) (λ fields body is. is.written.nodes_bound) (constructors parts fits.0) fun.cases fits.2 one.at ch.body one.is
