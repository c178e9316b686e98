-- Rows of spread schemas are the arguments of exactly the considered applications of a symbol, in order.
use Rattle.std.proofs.Common.{◌≡◌, ℕ, ◌-◌, ◌<◌, ◌≤◌, List, [], ◌∷◌, map, Some, IsTrue, refl, sym, ap, ap₂, ◌∙◌, subst, subst₂, arith}
use Rattle.law_sig.specs.Lists.{In, Each, total}
use Rattle.law_sig.specs.Trees.{schema_of}
use Rattle.law_sig.specs.Signature.{is_declared_sort, symbol_at, args_of, result_of, weight_at, sort_of}
use Rattle.law_sig.specs.Tests.{weight, is_explored}
use Rattle.law_sig.specs.Order.{IsBefore}
use Rattle.law_sig.specs.WellFormed.{IsWellFormed}
use Rattle.law_sig.specs.declared.tree.SortId.{SortId}
use Rattle.law_sig.specs.declared.tree.SymId.{SymId}
use Rattle.law_sig.specs.declared.tree.Tree.{Tree}
use Rattle.law_sig.specs.declared.tree.Tree.TheVariants.{App, outs-Var, outs-App}
use Rattle.law_sig.specs.declared.parts.Sym.{Sym}
use Rattle.law_sig.specs.declared.parts.SigParts.{SigParts}
use Rattle.law_sig.specs.Schemas.{IsConsidered}
use Rattle.law_sig.specs.Schemas.IsConsidered.{variable as considered_variable, application as considered_application}
use Rattle.law_laws.proofs.TreeFacts.{weight-App, schema-Var, schema-App}
use Rattle.law_laws.proofs.ListFacts.{of_each}
use Rattle.law_laws.proofs.Sorts.{HaveSorts, sorted_app, app_sorted}
use Rattle.law_laws.proofs.BodyFacts.{some_is}
use Rattle.law_laws.proofs.Descents.{weighs_something}
use Rattle.law_laws.proofs.Orders.{never_before_itself, before_chain, lighter}
use Rattle.law_listing.specs.declared.pick.Pick.{Pick}
use Rattle.law_listing.specs.Rows.{IsChosen, Lex}
use Rattle.law_listing.specs.Picks.{IsLower, IsRow}
use Rattle.law_listing.specs.Choices.{counts_of, weighing, Picked, IsTermOf}
use Rattle.law_listing.specs.Columns.{IsBelow, IsOver, AreColumns}
use Rattle.law_listing.specs.Columns.IsOver.{variable, application}
use Rattle.law_listing.specs.Stages.{kind_in, number_in, AtStage, Here}
use Rattle.law_listing.proofs.RowFacts.{by_columns, columns_by}
use Rattle.law_listing.proofs.Transfer.{StandFor}
use Rattle.law_listing.proofs.Picking.{IsSorted, picked_chosen, chosen_picked, picked_one, picked_rises, rows_compared}
use Rattle.law_listing.proofs.Staging.{apps_below, schemas_before}

-- What is considered

pub considered_over : (parts : SigParts) (spreads : List Tree) (t : Tree) → IsConsidered parts spreads t → IsOver parts (λ c. In c spreads) t
considered_over parts spreads t (considered_variable sort declared some) = variable sort declared some
considered_over parts spreads t (considered_application f cs sort explored each sorted small) = application f cs sort explored each sorted

pub over_considered : (parts : SigParts) (spreads : List Tree) (t : Tree) → IsOver parts (λ c. In c spreads) t → weight parts t ≤ parts.settings.size → IsConsidered parts spreads t
over_considered parts spreads t (variable sort declared some) small = considered_variable sort declared some
over_considered parts spreads t (application f cs sort explored each sorted) small = considered_application f cs sort explored each sorted small

-- over schemas it is a schema
pub over_schema : (parts : SigParts) (Spread : Tree → Type 0) (t : Tree) → ((c : Tree) → Spread c → schema_of c ≡ c) → IsOver parts Spread t → schema_of t ≡ t
over_schema parts Spread t are (variable sort declared some) = schema-Var sort 0
over_schema parts Spread t are (application f cs sort explored each sorted) = schema-App f cs ∙ ap (App f) (all cs each)
  where
    all : (cs : List Tree) → Each Spread cs → map schema_of cs ≡ cs
    all [] h = refl
    all (c ∷ cs) h = ap₂ ◌∷◌ (are c h.0) (all cs h.1)

pub considered_schema : (parts : SigParts) (spreads : List Tree) (t : Tree) → Each (λ c. schema_of c ≡ c) spreads → IsConsidered parts spreads t → schema_of t ≡ t
considered_schema parts spreads t are h = over_schema parts (λ c. In c spreads) t (λ c at. of_each (λ c. schema_of c ≡ c) at are) (considered_over parts spreads t h)

-- One symbol

-- an application of it, of this weight
pub record IsApplied (parts : SigParts) (Spread : Tree → Type 0) (w : ℕ) (f : SymId) (t : Tree) : Type 0 where
  pub args : List Tree
  pub is : t ≡ App f args
  pub explored : IsTrue (is_explored parts f)
  pub each : Each Spread args
  pub sort : SortId
  pub sorted : sort_of parts (App f args) ≡ Some sort
  pub weight_is : weight parts (App f args) ≡ w

same_symbol_id : (f g : SymId) → f.0 ≡ g.0 → f ≡ g
same_symbol_id f g e = ap id e
  where
    id : ℕ → SymId
    id n = record { 0 = n }

pub applied_at : (parts : SigParts) (Spread : Tree → Type 0) (w : ℕ) (f : SymId) (t : Tree) → IsOver parts Spread t → AtStage parts w 1 f.0 t → IsApplied parts Spread w f t
applied_at parts Spread w f t (variable sort declared some) at =
    let h : ◌≡◌ {A = ℕ} 0 1 = sym (ap kind_in (outs-Var sort 0)) ∙ at.kind_is in absurd (omega arith)
applied_at parts Spread w f t (application g cs sort explored each sorted) at = record {
  args = cs;
  is = ap (λ h. App h cs) same;
  explored = subst (λ h. IsTrue (is_explored parts h)) same explored;
  each = each;
  sort = sort;
  sorted = subst (λ h. sort_of parts (App h cs) ≡ Some sort) same sorted;
  weight_is = subst (λ h. weight parts (App h cs) ≡ w) same at.weight_is;
}
  where
    same : g ≡ f
    same = same_symbol_id g f (sym (ap number_in (outs-App g cs)) ∙ at.number_is)

pub applied_over : (parts : SigParts) (Spread : Tree → Type 0) (w : ℕ) (f : SymId) (t : Tree) → IsApplied parts Spread w f t → IsOver parts Spread t × (weight parts t ≡ w)
applied_over parts Spread w f t a = (
  subst (IsOver parts Spread) (sym a.is) (application f a.args a.sort a.explored a.each a.sorted),
  ap (weight parts) a.is ∙ a.weight_is,
)

-- what is asked of a symbol
pub record IsUsable (parts : SigParts) (w : ℕ) (f : SymId) (symbol : Sym) : Type 0 where
  pub explored : IsTrue (is_explored parts f)
  pub declared : symbol_at parts f ≡ Some symbol
  pub sorts_declared : Each (λ s. IsTrue (is_declared_sort parts s)) (args_of symbol)
  pub weighs : 1 ≤ weight_at parts f
  pub heavy : weight_at parts f ≤ w

pub usable : (parts : SigParts) (w : ℕ) (f : SymId) (symbol : Sym) → IsWellFormed parts → symbol_at parts f ≡ Some symbol → IsTrue (is_explored parts f) → weight_at parts f ≤ w → IsUsable parts w f symbol
usable parts w f symbol well is explored heavy = record {
  explored = explored;
  declared = is;
  sorts_declared = (well.symbols f symbol is).args_declared;
  weighs = weighs_something parts well f;
  heavy = heavy;
}

module _ (parts : SigParts) (Spread : Tree → Type 0) (bound : ℕ) (items : ℕ → SortId → List Tree) (are : AreColumns parts Spread bound items) where
  chosen_args : (ss : List SortId) (w : ℕ) (args : List Tree) → IsChosen items ss w args
      → Each Spread args × HaveSorts parts args ss × (total (map (weight parts) args) ≡ w)
  chosen_args [] w [] h = (tt, tt, sym h)
  chosen_args [] w (a ∷ args) h = absurd h
  chosen_args (s ∷ ss) w [] h = absurd h
  chosen_args (s ∷ ss) w (a ∷ args) (own, upto, at, h) =
      let (there_is, weighs, sorted) = are.sound own s a at in
      let (each, sorts, sum) = chosen_args ss (w - own) args h in
      ((there_is, each), (sorted, sorts), omega arith)

  args_chosen : (ss : List SortId) (w : ℕ) (args : List Tree) → Each (λ s. IsTrue (is_declared_sort parts s)) ss → w < bound → total (map (weight parts) args) ≡ w
      → Each Spread args → HaveSorts parts args ss → IsChosen items ss w args
  args_chosen [] w [] declared small sum each sorts = sym sum
  args_chosen [] w (a ∷ args) declared small sum each sorts = absurd sorts
  args_chosen (s ∷ ss) w [] declared small sum each sorts = absurd sorts
  args_chosen (s ∷ ss) w (a ∷ args) declared small sum each sorts = (
    weight parts a,
    omega arith,
    are.full (weight parts a) s a (omega arith) declared.0 each.0 refl sorts.0,
    args_chosen ss (w - weight parts a) args declared.1 (omega arith) (omega arith) each.1 sorts.1,
  )

  -- lighter ones stand before heavier ones
  pub items_across : (j k : ℕ) (sort : SortId) → j < k → (s t : Tree) → In s (items j sort) → In t (items k sort) → IsBelow parts s t
  items_across j k sort less s t p q =
      let (s_in, s_weight, s_sort) = are.sound j sort s p in
      let (t_in, t_weight, t_sort) = are.sound k sort t q in
      lighter parts s t (omega arith)

  pub applied : (w : ℕ) (f : SymId) (symbol : Sym) (u : IsUsable parts w f symbol) (args : List Tree) → IsChosen items (args_of symbol) (w - weight_at parts f) args → IsApplied parts Spread w f (App f args)
  applied w f symbol u args c =
      let (each, sorts, sum) = chosen_args (args_of symbol) (w - weight_at parts f) args c in
      let h = u.heavy in
      let e = weight-App parts f args in
      record {
        args = args;
        is = refl;
        explored = u.explored;
        each = each;
        sort = result_of symbol;
        sorted = app_sorted parts f args (result_of symbol) (record { symbol = symbol; declared = u.declared; result = refl; sorts = sorts });
        weight_is = omega arith;
      }

  pub chosen : (w : ℕ) (f : SymId) (symbol : Sym) (u : IsUsable parts w f symbol) (t : Tree) (a : IsApplied parts Spread w f t) → w ≤ bound → IsChosen items (args_of symbol) (w - weight_at parts f) a.args
  chosen w f symbol u t a within =
      let p = sorted_app parts f a.args a.sort a.sorted in
      let same : p.symbol ≡ symbol = some_is p.symbol symbol (sym p.declared ∙ u.declared) in
      let e = weight-App parts f a.args in
      let d = a.weight_is in
      let g = u.weighs in
      let k = u.heavy in
      args_chosen (args_of symbol) (w - weight_at parts f) a.args u.sorts_declared (omega arith) (omega arith) a.each (subst (λ z. HaveSorts parts a.args (args_of z)) same p.sorts)

-- Rows of picks

module _ (parts : SigParts) (spreads : List Tree) (bound : ℕ) (columns : SortId → List (List Tree)) (schemas : Each (λ c. schema_of c ≡ c) spreads)
    (are : AreColumns parts (λ c. In c spreads) bound (λ k s. weighing k (columns s))) where
  columns_sorted : (ss : List SortId) → Each (IsSorted (IsBelow parts)) (map columns ss)
  columns_sorted [] = tt
  columns_sorted (s ∷ ss) = (
    record { rising = λ k. are.rising k s; across = λ j k t u less p q. items_across parts (λ c. In c spreads) bound (λ k s. weighing k (columns s)) are j k s less t u p q },
    columns_sorted ss,
  )

  -- they stand for the considered applications of a symbol, of one weight
  pub stands : (w : ℕ) (f : SymId) (symbol : Sym) (u : IsUsable parts w f symbol) → w ≤ bound → w ≤ parts.settings.size
      → StandFor (Lex IsLower) (IsBefore parts) (IsRow (counts_of (map columns (args_of symbol))) (w - weight_at parts f)) (Here parts (IsConsidered parts spreads) w 1 f.0)
      (IsTermOf (map columns (args_of symbol)) f)
  stands w f symbol u within small = record {
    strict = never_before_itself parts;
    chain = before_chain parts;
    compared = λ a b a_is b_is. rows_compared (counts_of (map columns (args_of symbol))) _ _ a b a_is b_is;
    holds = λ row t row_is of. subst (Here parts (IsConsidered parts spreads) w 1 f.0) (sym of.2) (is_considered of.0 (one row of.0 row_is of.1));
    found = λ t t_is.
        let a = applied_at parts (λ c. In c spreads) w f t (considered_over parts spreads t t_is.0) t_is.1 in
        let (row, row_is, picked) = chosen_picked (map columns (args_of symbol)) (w - weight_at parts f) a.args (columns_by columns (args_of symbol) (w - weight_at parts f) a.args
        (chosen parts (λ c. In c spreads) bound (λ k s. weighing k (columns s)) are w f symbol u t a within)) in
        (row, row_is, (a.args, picked, a.is));
    one = λ row s t s_of t_of. s_of.2 ∙ ap (App f) (picked_one (map columns (args_of symbol)) row s_of.0 t_of.0 s_of.1 t_of.1) ∙ sym t_of.2;
    rises = λ a b s t a_is b_is s_of t_of less. subst₂ (IsBefore parts) (sym s_of.2) (sym t_of.2)
        (apps_before s_of.0 t_of.0 (one a s_of.0 a_is s_of.1) (one b t_of.0 b_is t_of.1) (picked_rises (IsBelow parts) (map columns (args_of symbol)) a b s_of.0 t_of.0 (columns_sorted (args_of symbol)) s_of.1 t_of.1 less));
  }
    where
      one : (row : List Pick) (args : List Tree) → IsRow (counts_of (map columns (args_of symbol))) (w - weight_at parts f) row → Picked (map columns (args_of symbol)) row args
          → IsApplied parts (λ c. In c spreads) w f (App f args)
      one row args row_is picked = applied parts (λ c. In c spreads) bound (λ k s. weighing k (columns s)) are w f symbol u args
          (by_columns columns (args_of symbol) (w - weight_at parts f) args (picked_chosen (map columns (args_of symbol)) (w - weight_at parts f) row args row_is picked))

      is_considered : (args : List Tree) → IsApplied parts (λ c. In c spreads) w f (App f args) → Here parts (IsConsidered parts spreads) w 1 f.0 (App f args)
      is_considered args a =
          let (over, weighs) = applied_over parts (λ c. In c spreads) w f (App f args) a in (
            over_considered parts spreads (App f args) over (subst (λ n. n ≤ parts.settings.size) (sym weighs) small),
            record { weight_is = weighs; kind_is = ap kind_in (outs-App f args); number_is = ap number_in (outs-App f args) },
          )

      apps_before : (ss ts : List Tree) → IsApplied parts (λ c. In c spreads) w f (App f ss) → IsApplied parts (λ c. In c spreads) w f (App f ts)
          → Lex (IsBelow parts) ss ts → IsBefore parts (App f ss) (App f ts)
      apps_before ss ts s_is t_is less =
          let s = is_considered ss s_is in
          let t = is_considered ts t_is in
          schemas_before parts (App f ss) (App f ts) (considered_schema parts spreads (App f ss) schemas s.0) (considered_schema parts spreads (App f ts) schemas t.0)
          (apps_below parts f ss ts (s.1.weight_is ∙ sym t.1.weight_is) less)
