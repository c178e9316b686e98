-- Each text in the order of the grammar has its parts.
use Rattle.std.proofs.Common.{◌≡◌, ℕ, List, [], ◌∷◌, ◌⊎◌, inl, inr, append-nil, refl, sym, ap, ◌∙◌, subst}
use Rattle.law_sig.specs.Lists.{Each}
use Rattle.law_lines.specs.Grammar.{Grammar}
use Rattle.law_lines.specs.Grammar.Grammar.{one, series, either}
use Rattle.law_lines.specs.Order.{order, version, functions, declarations, given_pools, shape_of}
use Rattle.law_lines.specs.Signature.{IsRawSig}
use Rattle.law_lines.specs.declared.shape.Shape.{Shape}
use Rattle.law_lines.specs.declared.shape.Shape.TheVariants as shape
use Rattle.law_lines.specs.declared.raw.RawTerm.{RawTerm}
use Rattle.law_lines.specs.declared.raw.RawLine.{RawLine}
use Rattle.law_lines.specs.declared.raw.RawLine.TheVariants as line
use Rattle.law_typing.specs.Typed.{Version}
use Rattle.law_typing.specs.Typed.Version.{first, second, third}
use Rattle.law_typing.proofs.Laid.{ConRow, SortRow, CaseRow, Rules, FunRow, SidesRow, ValuesRow, PoolRows, Layout, con_line, sort_line, fun_line, cons_then, sorts_then, cases_then, rules_then, funs_then, background_then, values_then, pools_then, pool_lines, rule_line, FitsSort, FitsCon, FitsFun, FitsSortRow, HasPools, HasSorts, IsLayout, OneLine, Then, Many, From, reads}
use Rattle.law_typing.proofs.Laid.Rules.{single, matching}
use Rattle.law_typing.proofs.Laid.PoolRows.{given, seeded}
use Rattle.law_typing.proofs.Laid.Many.{stop, more}

-- A line of a shape

abbrev IsOf : Shape → RawLine → Type 0
IsOf shape.Head l = l ≡ line.Head
IsOf shape.Head2 l = l ≡ line.Head2
IsOf shape.Head3 l = l ≡ line.Head3
IsOf shape.Vars l = (n : ℕ) × (l ≡ line.Vars n)
IsOf shape.Size l = (n : ℕ) × (l ≡ line.Size n)
IsOf shape.Width l = (n : ℕ) × (l ≡ line.Width n)
IsOf shape.Budget l = (n : ℕ) × (l ≡ line.Budget n)
IsOf shape.Pairs l = (n : ℕ) × (l ≡ line.Pairs n)
IsOf shape.PoolsGiven l = l ≡ line.PoolsGiven
IsOf shape.PoolsSeed l = (s : ℕ) × (h : ℕ) × (c : ℕ) × (l ≡ line.PoolsSeed s h c)
IsOf shape.SortLine l = (n : List ℕ) × (l ≡ line.SortLine n)
IsOf shape.SortLine2 l = (n : List ℕ) × (v : ℕ) × (w : ℕ) × (l ≡ line.SortLine2 n v w)
IsOf shape.ConLine l = (n : List ℕ) × (a : List (List ℕ)) × (l ≡ line.ConLine n a)
IsOf shape.ConLine3 l = (w : ℕ) × (n : List ℕ) × (a : List (List ℕ)) × (l ≡ line.ConLine3 w n a)
IsOf shape.FunLine l = (n : List ℕ) × (a : List (List ℕ)) × (r : List ℕ) × (l ≡ line.FunLine n a r)
IsOf shape.FunLine3 l = (w : ℕ) × (n : List ℕ) × (a : List (List ℕ)) × (r : List ℕ) × (l ≡ line.FunLine3 w n a r)
IsOf shape.MatchLine l = (n : ℕ) × (l ≡ line.MatchLine n)
IsOf shape.BodyLine l = (b : RawTerm) × (l ≡ line.BodyLine b)
IsOf shape.CaseLine l = (c : List ℕ) × (b : RawTerm) × (l ≡ line.CaseLine c b)
IsOf shape.Explore l = (n : List (List ℕ)) × (l ≡ line.Explore n)
IsOf shape.Background l = (a : RawTerm) × (b : RawTerm) × (l ≡ line.Background a b)
IsOf shape.Pool l = l ≡ line.Pool
IsOf shape.Values l = (s : List ℕ) × (v : List RawTerm) × (l ≡ line.Values s v)
IsOf shape.End l = l ≡ line.End

is_of : (l : RawLine) → IsOf (shape_of l) l
is_of line.Head = refl
is_of line.Head2 = refl
is_of line.Head3 = refl
is_of (line.Vars n) = (n, refl)
is_of (line.Size n) = (n, refl)
is_of (line.Width n) = (n, refl)
is_of (line.Budget n) = (n, refl)
is_of (line.Pairs n) = (n, refl)
is_of line.PoolsGiven = refl
is_of (line.PoolsSeed s h c) = (s, h, c, refl)
is_of (line.SortLine n) = (n, refl)
is_of (line.SortLine2 n v w) = (n, v, w, refl)
is_of (line.ConLine n a) = (n, a, refl)
is_of (line.ConLine3 w n a) = (w, n, a, refl)
is_of (line.FunLine n a r) = (n, a, r, refl)
is_of (line.FunLine3 w n a r) = (w, n, a, r, refl)
is_of (line.MatchLine n) = (n, refl)
is_of (line.BodyLine b) = (b, refl)
is_of (line.CaseLine c b) = (c, b, refl)
is_of (line.Explore n) = (n, refl)
is_of (line.Background a b) = (a, b, refl)
is_of line.Pool = refl
is_of (line.Values s v) = (s, v, refl)
is_of line.End = refl

of : {s : Shape} {lines rest : List RawLine} → (o : OneLine s lines rest) → IsOf s o.l
of o = subst (λ z. IsOf z o.l) o.shape_is (is_of o.l)

-- what a line begins, where it is known
begins : {s : Shape} {lines rest : List RawLine} → (o : OneLine s lines rest) → (l : RawLine) → o.l ≡ l → lines ≡ l ∷ rest
begins {s} {lines} {rest} o l e = o.starts ∙ ap (λ z. z ∷ rest) e

-- Sorts and constructors

abbrev sort_shape : Version → Shape
sort_shape (first vars width) = shape.SortLine
sort_shape second = shape.SortLine2
sort_shape third = shape.SortLine2

abbrev con_shape : Version → Shape
con_shape (first vars width) = shape.ConLine
con_shape second = shape.ConLine
con_shape third = shape.ConLine3

abbrev fun_shape : Version → Shape
fun_shape (first vars width) = shape.FunLine
fun_shape second = shape.FunLine
fun_shape third = shape.FunLine3

con_row : (v : Version) (l : RawLine) → IsOf (con_shape v) l → (c : ConRow) × (l ≡ con_line v c) × FitsCon v c
con_row (first vars width) l (n, a, e) = (record { weight = 1; name = n; args = a }, e, refl)
con_row second l (n, a, e) = (record { weight = 1; name = n; args = a }, e, refl)
con_row third l (w, n, a, e) = (record { weight = w; name = n; args = a }, e, tt)

sort_row : (v : Version) (cons : List ConRow) (l : RawLine) → IsOf (sort_shape v) l
    → (s : SortRow) × (l ≡ sort_line v s) × FitsSort v s × (s.cons ≡ cons)
sort_row (first vars width) cons l (n, e) = (record { name = n; vars = vars; width = width; cons = cons }, e, (refl, refl), refl)
sort_row second cons l (n, v, w, e) = (record { name = n; vars = v; width = w; cons = cons }, e, tt, refl)
sort_row third cons l (n, v, w, e) = (record { name = n; vars = v; width = w; cons = cons }, e, tt, refl)

fun_row : (v : Version) (rules : Rules) (l : RawLine) → IsOf (fun_shape v) l
    → (f : FunRow) × (l ≡ fun_line v f) × FitsFun v f × (f.rules ≡ rules)
fun_row (first vars width) rules l (n, a, r, e) = (record { weight = 1; name = n; args = a; result = r; rules = rules }, e, refl, refl)
fun_row second rules l (n, a, r, e) = (record { weight = 1; name = n; args = a; result = r; rules = rules }, e, refl, refl)
fun_row third rules l (w, n, a, r, e) = (record { weight = w; name = n; args = a; result = r; rules = rules }, e, tt, refl)

pub record ConsFound (v : Version) (lines rest : List RawLine) : Type 0 where
  rows : List ConRow
  is : lines ≡ cons_then v rows rest
  fit : Each (FitsCon v) rows

pub cons_found : (v : Version) (lines rest : List RawLine) → Many (OneLine (con_shape v)) lines rest → ConsFound v lines rest
cons_found v lines rest (stop l r e) = record { rows = []; is = e; fit = tt }
cons_found v lines rest (more l mid r o ms) =
    let c = con_row v o.l (of o) in
    let m = cons_found v mid rest ms in
    record { rows = c.0 ∷ m.rows; is = begins o (con_line v c.0) c.1 ∙ ap (λ z. con_line v c.0 ∷ z) m.is; fit = (c.2, m.fit) }

record BlockFound (v : Version) (lines rest : List RawLine) : Type 0 where
  row : SortRow
  is : lines ≡ sort_line v row ∷ cons_then v row.cons rest
  fit : FitsSortRow v row

block_found : (v : Version) (lines rest : List RawLine)
    → Then (OneLine (sort_shape v)) (Then (OneLine (con_shape v)) (Many (OneLine (con_shape v)))) lines rest → BlockFound v lines rest
block_found v lines rest t =
    let c = cons_found v t.mid rest (more t.mid t.back.mid rest t.back.front t.back.back) in
    let s = sort_row v c.rows t.front.l (of t.front) in
    record {
      row = s.0;
      is = begins t.front (sort_line v s.0) s.1 ∙ ap (λ z. sort_line v s.0 ∷ z) (c.is ∙ ap (λ z. cons_then v z rest) (sym s.3));
      fit = (s.2, subst (Each (FitsCon v)) (sym s.3) c.fit);
    }

record SortsFound (v : Version) (lines rest : List RawLine) : Type 0 where
  rows : List SortRow
  is : lines ≡ sorts_then v rows rest
  fit : Each (FitsSortRow v) rows

sorts_found : (v : Version) (lines rest : List RawLine)
    → Many (Then (OneLine (sort_shape v)) (Then (OneLine (con_shape v)) (Many (OneLine (con_shape v))))) lines rest → SortsFound v lines rest
sorts_found v lines rest (stop l r e) = record { rows = []; is = e; fit = tt }
sorts_found v lines rest (more l mid r t ms) =
    let b = block_found v lines mid t in
    let m = sorts_found v mid rest ms in
    record { rows = b.row ∷ m.rows; is = b.is ∙ ap (λ z. sort_line v b.row ∷ cons_then v b.row.cons z) m.is; fit = (b.fit, m.fit) }

-- Functions

record CasesFound (lines rest : List RawLine) : Type 0 where
  rows : List CaseRow
  is : lines ≡ cases_then rows rest

cases_found : (lines rest : List RawLine) → Many (OneLine shape.CaseLine) lines rest → CasesFound lines rest
cases_found lines rest (stop l r e) = record { rows = []; is = e }
cases_found lines rest (more l mid r o ms) =
    let (c, b, e) = of o in
    let m = cases_found mid rest ms in
    record { rows = record { con = c; body = b } ∷ m.rows; is = begins o (line.CaseLine c b) e ∙ ap (λ z. line.CaseLine c b ∷ z) m.is }

record RulesFound (lines rest : List RawLine) : Type 0 where
  rules : Rules
  is : lines ≡ rules_then rules rest

rules_found : (lines rest : List RawLine)
    → OneLine shape.BodyLine lines rest ⊎ Then (OneLine shape.MatchLine) (Then (OneLine shape.CaseLine) (Many (OneLine shape.CaseLine))) lines rest
    → RulesFound lines rest
rules_found lines rest (inl o) = let (b, e) = of o in record { rules = single b; is = begins o (line.BodyLine b) e }
rules_found lines rest (inr t) =
    let (n, e) = of t.front in
    let c = cases_found t.mid rest (more t.mid t.back.mid rest t.back.front t.back.back) in
    record { rules = matching n c.rows; is = begins t.front (line.MatchLine n) e ∙ ap (λ z. line.MatchLine n ∷ z) c.is }

record FunsFound (v : Version) (lines rest : List RawLine) : Type 0 where
  rows : List FunRow
  is : lines ≡ funs_then v rows rest
  fit : Each (FitsFun v) rows

funs_found : (v : Version) (lines rest : List RawLine) → From (functions (fun_shape v)) lines rest → FunsFound v lines rest
funs_found v lines rest (stop l r e) = record { rows = []; is = e; fit = tt }
funs_found v lines rest (more l mid r t ms) =
    let rs = rules_found t.mid mid t.back in
    let f = fun_row v rs.rules t.front.l (of t.front) in
    let m = funs_found v mid rest ms in
    record {
      rows = f.0 ∷ m.rows;
      is = begins t.front (fun_line v f.0) f.1
          ∙ ap (λ z. fun_line v f.0 ∷ z) (rs.is ∙ ap (λ q. rules_then q mid) (sym f.3) ∙ ap (rules_then f.0.rules) m.is);
      fit = (f.2, m.fit);
    }

-- Background and pools

record SidesFound (lines rest : List RawLine) : Type 0 where
  rows : List SidesRow
  is : lines ≡ background_then rows rest

sides_found : (lines rest : List RawLine) → Many (OneLine shape.Background) lines rest → SidesFound lines rest
sides_found lines rest (stop l r e) = record { rows = []; is = e }
sides_found lines rest (more l mid r o ms) =
    let (a, b, e) = of o in
    let m = sides_found mid rest ms in
    record { rows = record { left = a; right = b } ∷ m.rows; is = begins o (line.Background a b) e ∙ ap (λ z. line.Background a b ∷ z) m.is }

record ValuesFound (lines rest : List RawLine) : Type 0 where
  rows : List ValuesRow
  is : lines ≡ values_then rows rest

values_found : (lines rest : List RawLine) → Many (OneLine shape.Values) lines rest → ValuesFound lines rest
values_found lines rest (stop l r e) = record { rows = []; is = e }
values_found lines rest (more l mid r o ms) =
    let (s, t, e) = of o in
    let m = values_found mid rest ms in
    record { rows = record { sort = s; values = t } ∷ m.rows; is = begins o (line.Values s t) e ∙ ap (λ z. line.Values s t ∷ z) m.is }

record PoolsFound (lines rest : List RawLine) : Type 0 where
  rows : List (List ValuesRow)
  is : lines ≡ pools_then rows rest

one_pool : (lines rest : List RawLine) → Then (OneLine shape.Pool) (Then (OneLine shape.Values) (Many (OneLine shape.Values))) lines rest
    → (p : List ValuesRow) × (lines ≡ line.Pool ∷ values_then p rest)
one_pool lines rest t =
    let w = values_found t.mid rest (more t.mid t.back.mid rest t.back.front t.back.back) in
    (w.rows, begins t.front line.Pool (of t.front) ∙ ap (λ z. line.Pool ∷ z) w.is)

pools_found : (lines rest : List RawLine)
    → Many (Then (OneLine shape.Pool) (Then (OneLine shape.Values) (Many (OneLine shape.Values)))) lines rest → PoolsFound lines rest
pools_found lines rest (stop l r e) = record { rows = []; is = e }
pools_found lines rest (more l mid r t ms) =
    let p = one_pool lines mid t in
    let m = pools_found mid rest ms in
    record { rows = p.0 ∷ m.rows; is = p.1 ∙ ap (λ z. line.Pool ∷ values_then p.0 z) m.is }

-- What stands behind the numbers

record DeclaredFound (v : Version) (G : Grammar Shape) (lines : List RawLine) : Type 0 where
  sorts : List SortRow
  funs : List FunRow
  explored : List (List ℕ)
  background : List SidesRow
  end : List RawLine
  is : lines ≡ sorts_then v sorts (funs_then v funs (line.Explore explored ∷ background_then background end))
  left : From G end []
  has_sorts : HasSorts sorts
  sorts_fit : Each (FitsSortRow v) sorts
  funs_fit : Each (FitsFun v) funs

declared_found : (v : Version) (G : Grammar Shape) (lines : List RawLine)
    → From (declarations (sort_shape v) (con_shape v) (fun_shape v) G) lines [] → DeclaredFound v G lines
declared_found v G lines t =
    let b = block_found v lines t.front.mid t.front.front in
    let s = sorts_found v t.front.mid t.mid t.front.back in
    let f = funs_found v t.mid t.back.mid t.back.front in
    let (n, e) = of t.back.back.front in
    let g = sides_found t.back.back.mid t.back.back.back.mid t.back.back.back.front in
    record {
      sorts = b.row ∷ s.rows;
      funs = f.rows;
      explored = n;
      background = g.rows;
      end = t.back.back.back.mid;
      is = b.is ∙ ap (λ z. sort_line v b.row ∷ cons_then v b.row.cons z) (s.is ∙ ap (sorts_then v s.rows) (f.is ∙ ap (funs_then v f.rows)
          (begins t.back.back.front (line.Explore n) e ∙ ap (λ z. line.Explore n ∷ z) g.is)));
      left = t.back.back.back.back;
      has_sorts = tt;
      sorts_fit = (b.fit, s.fit);
      funs_fit = f.fit;
    }

record RestFound (v : Version) (lines : List RawLine) : Type 0 where
  sorts : List SortRow
  funs : List FunRow
  explored : List (List ℕ)
  background : List SidesRow
  pools : PoolRows
  is : lines ≡ rule_line pools ∷ sorts_then v sorts (funs_then v funs (line.Explore explored ∷ background_then background (pool_lines pools)))
  has_sorts : HasSorts sorts
  has_pools : HasPools pools
  sorts_fit : Each (FitsSortRow v) sorts
  funs_fit : Each (FitsFun v) funs

end_found : (lines : List RawLine) → OneLine shape.End lines [] → lines ≡ line.End ∷ []
end_found lines o = begins o line.End (of o)

abbrev rest_grammar : Version → Grammar Shape
rest_grammar v = either
    (series (one shape.PoolsGiven) (declarations (sort_shape v) (con_shape v) (fun_shape v) given_pools))
    (series (one shape.PoolsSeed) (declarations (sort_shape v) (con_shape v) (fun_shape v) (one shape.End)))

rest_found : (v : Version) (lines : List RawLine) → From (rest_grammar v) lines [] → RestFound v lines
rest_found v lines (inl t) =
    let d = declared_found v given_pools t.mid t.back in
    let p = one_pool d.end d.left.front.mid d.left.front.front in
    let m = pools_found d.left.front.mid d.left.mid d.left.front.back in
    record {
      sorts = d.sorts;
      funs = d.funs;
      explored = d.explored;
      background = d.background;
      pools = given (p.0 ∷ m.rows);
      is = begins t.front line.PoolsGiven (of t.front) ∙ ap (λ z. line.PoolsGiven ∷ z) (d.is
          ∙ ap (λ z. sorts_then v d.sorts (funs_then v d.funs (line.Explore d.explored ∷ background_then d.background z)))
          (p.1 ∙ ap (λ z. line.Pool ∷ values_then p.0 z) (m.is ∙ ap (pools_then m.rows) (end_found d.left.mid d.left.back))));
      has_sorts = d.has_sorts;
      has_pools = tt;
      sorts_fit = d.sorts_fit;
      funs_fit = d.funs_fit;
    }
rest_found v lines (inr t) =
    let d = declared_found v (one shape.End) t.mid t.back in
    let (s, h, c, e) = of t.front in
    record {
      sorts = d.sorts;
      funs = d.funs;
      explored = d.explored;
      background = d.background;
      pools = seeded s h c;
      is = begins t.front (line.PoolsSeed s h c) e ∙ ap (λ z. line.PoolsSeed s h c ∷ z) (d.is
          ∙ ap (λ z. sorts_then v d.sorts (funs_then v d.funs (line.Explore d.explored ∷ background_then d.background z))) (end_found d.end d.left));
      has_sorts = d.has_sorts;
      has_pools = tt;
      sorts_fit = d.sorts_fit;
      funs_fit = d.funs_fit;
    }

-- The whole text

abbrev made : (v : Version) (size budget pairs : ℕ) (lines : List RawLine) → RestFound v lines → Layout
made v size budget pairs lines r = record {
  version = v;
  size = size;
  budget = budget;
  pairs = pairs;
  sorts = r.sorts;
  funs = r.funs;
  explored = r.explored;
  background = r.background;
  pools = r.pools;
}

first_laid : (lines : List RawLine) → From (version (shape.Head ∷ shape.Vars ∷ shape.Size ∷ shape.Width ∷ shape.Budget ∷ shape.Pairs ∷ []) shape.SortLine shape.ConLine shape.FunLine) lines []
    → (l : Layout) × IsLayout lines l
first_laid lines t =
    let t1 = t.back in let t2 = t1.back in let t3 = t2.back in let t4 = t3.back in let t5 = t4.back in
    let (n1, e1) = of t1.front in let (n2, e2) = of t2.front in let (n3, e3) = of t3.front in let (n4, e4) = of t4.front in let (n5, e5) = of t5.front in
    let v = first n1 n3 in
    let r = rest_found v t5.mid t5.back in (
      made v n2 n4 n5 t5.mid r,
      record {
        lines_are = begins t.front line.Head (of t.front) ∙ ap (λ z. line.Head ∷ z) (begins t1.front (line.Vars n1) e1 ∙ ap (λ z. line.Vars n1 ∷ z)
            (begins t2.front (line.Size n2) e2 ∙ ap (λ z. line.Size n2 ∷ z) (begins t3.front (line.Width n3) e3 ∙ ap (λ z. line.Width n3 ∷ z)
            (begins t4.front (line.Budget n4) e4 ∙ ap (λ z. line.Budget n4 ∷ z) (begins t5.front (line.Pairs n5) e5 ∙ ap (λ z. line.Pairs n5 ∷ z) r.is)))));
        sorts_fit = r.sorts_fit;
        funs_fit = r.funs_fit;
        has_sorts = r.has_sorts;
        has_pools = r.has_pools;
      },
    )

second_laid : (lines : List RawLine) → From (version (shape.Head2 ∷ shape.Size ∷ shape.Budget ∷ shape.Pairs ∷ []) shape.SortLine2 shape.ConLine shape.FunLine) lines []
    → (l : Layout) × IsLayout lines l
second_laid lines t =
    let t2 = t.back in let t4 = t2.back in let t5 = t4.back in
    let (n2, e2) = of t2.front in let (n4, e4) = of t4.front in let (n5, e5) = of t5.front in
    let r = rest_found second t5.mid t5.back in (
      made second n2 n4 n5 t5.mid r,
      record {
        lines_are = begins t.front line.Head2 (of t.front) ∙ ap (λ z. line.Head2 ∷ z) (begins t2.front (line.Size n2) e2 ∙ ap (λ z. line.Size n2 ∷ z)
            (begins t4.front (line.Budget n4) e4 ∙ ap (λ z. line.Budget n4 ∷ z) (begins t5.front (line.Pairs n5) e5 ∙ ap (λ z. line.Pairs n5 ∷ z) r.is)));
        sorts_fit = r.sorts_fit;
        funs_fit = r.funs_fit;
        has_sorts = r.has_sorts;
        has_pools = r.has_pools;
      },
    )

third_laid : (lines : List RawLine) → From (version (shape.Head3 ∷ shape.Size ∷ shape.Budget ∷ shape.Pairs ∷ []) shape.SortLine2 shape.ConLine3 shape.FunLine3) lines []
    → (l : Layout) × IsLayout lines l
third_laid lines t =
    let t2 = t.back in let t4 = t2.back in let t5 = t4.back in
    let (n2, e2) = of t2.front in let (n4, e4) = of t4.front in let (n5, e5) = of t5.front in
    let r = rest_found third t5.mid t5.back in (
      made third n2 n4 n5 t5.mid r,
      record {
        lines_are = begins t.front line.Head3 (of t.front) ∙ ap (λ z. line.Head3 ∷ z) (begins t2.front (line.Size n2) e2 ∙ ap (λ z. line.Size n2 ∷ z)
            (begins t4.front (line.Budget n4) e4 ∙ ap (λ z. line.Budget n4 ∷ z) (begins t5.front (line.Pairs n5) e5 ∙ ap (λ z. line.Pairs n5 ∷ z) r.is)));
        sorts_fit = r.sorts_fit;
        funs_fit = r.funs_fit;
        has_sorts = r.has_sorts;
        has_pools = r.has_pools;
      },
    )

pub laid_out : (lines : List RawLine) → IsRawSig lines → (l : Layout) × IsLayout lines l
laid_out lines raw = by (subst (λ z. From order z []) (append-nil lines) (reads order lines [] raw.order))
  where
    by : From order lines [] → (l : Layout) × IsLayout lines l
    by (inl t) = first_laid lines t
    by (inr (inl t)) = second_laid lines t
    by (inr (inr t)) = third_laid lines t
