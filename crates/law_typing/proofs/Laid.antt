-- A text in its parts: settings, sorts with their constructors, functions with their rules, explored names, background and
-- pools; and each text in the order of the grammar has such parts.
use Rattle.std.proofs.Common.{◌≡◌, ℕ, List, [], ◌∷◌, ◌++◌, ◌⊎◌, inl, inr, map, flat_map, refl, sym, ap, ap₂, ◌∙◌, subst, append_assoc}
use Rattle.std.specs.List.{AllByRecursion}
use Rattle.law_sig.specs.Lists.{Each}
use Rattle.law_lines.specs.Grammar.{Grammar, Spells}
use Rattle.law_lines.specs.Grammar.Grammar.{never, empty, one, series, either, many}
use Rattle.law_lines.specs.Order.{shape_of}
use Rattle.law_lines.specs.declared.shape.Shape.{Shape}
use Rattle.law_lines.specs.declared.raw.RawTerm.{RawTerm}
use Rattle.law_lines.specs.declared.raw.RawLine.{RawLine}
use Rattle.law_lines.specs.declared.raw.RawLine.TheVariants as line
use Rattle.law_typing.specs.Typed.{Version}
use Rattle.law_typing.specs.Typed.Version.{first, second, third}

-- The parts

pub record ConRow : Type 0 where
  pub weight : ℕ
  pub name : List ℕ
  pub args : List (List ℕ)

pub record SortRow : Type 0 where
  pub name : List ℕ
  pub vars : ℕ
  pub width : ℕ
  pub cons : List ConRow

pub record CaseRow : Type 0 where
  pub con : List ℕ
  pub body : RawTerm

pub data Rules : Type 0 where
  single : RawTerm → Rules
  matching : ℕ → List CaseRow → Rules

pub record FunRow : Type 0 where
  pub weight : ℕ
  pub name : List ℕ
  pub args : List (List ℕ)
  pub result : List ℕ
  pub rules : Rules

pub record SidesRow : Type 0 where
  pub left : RawTerm
  pub right : RawTerm

pub record ValuesRow : Type 0 where
  pub sort : List ℕ
  pub values : List RawTerm

pub data PoolRows : Type 0 where
  given : List (List ValuesRow) → PoolRows
  seeded : ℕ → ℕ → ℕ → PoolRows

pub record Layout : Type 0 where
  pub version : Version
  pub size : ℕ
  pub budget : ℕ
  pub pairs : ℕ
  pub sorts : List SortRow
  pub funs : List FunRow
  pub explored : List (List ℕ)
  pub background : List SidesRow
  pub pools : PoolRows

-- Their lines, and then the rest

abbrev pub con_line : Version → ConRow → RawLine
con_line (first vars width) c = line.ConLine c.name c.args
con_line second c = line.ConLine c.name c.args
con_line third c = line.ConLine3 c.weight c.name c.args

abbrev pub sort_line : Version → SortRow → RawLine
sort_line (first vars width) s = line.SortLine s.name
sort_line second s = line.SortLine2 s.name s.vars s.width
sort_line third s = line.SortLine2 s.name s.vars s.width

abbrev pub fun_line : Version → FunRow → RawLine
fun_line (first vars width) f = line.FunLine f.name f.args f.result
fun_line second f = line.FunLine f.name f.args f.result
fun_line third f = line.FunLine3 f.weight f.name f.args f.result

abbrev pub cons_then : Version → List ConRow → List RawLine → List RawLine
cons_then version [] rest = rest
cons_then version (c ∷ cs) rest = con_line version c ∷ cons_then version cs rest

abbrev pub sorts_then : Version → List SortRow → List RawLine → List RawLine
sorts_then version [] rest = rest
sorts_then version (s ∷ ss) rest = sort_line version s ∷ cons_then version s.cons (sorts_then version ss rest)

abbrev pub cases_then : List CaseRow → List RawLine → List RawLine
cases_then [] rest = rest
cases_then (c ∷ cs) rest = line.CaseLine c.con c.body ∷ cases_then cs rest

abbrev pub rules_then : Rules → List RawLine → List RawLine
rules_then (single body) rest = line.BodyLine body ∷ rest
rules_then (matching place cases) rest = line.MatchLine place ∷ cases_then cases rest

abbrev pub funs_then : Version → List FunRow → List RawLine → List RawLine
funs_then version [] rest = rest
funs_then version (f ∷ fs) rest = fun_line version f ∷ rules_then f.rules (funs_then version fs rest)

abbrev pub background_then : List SidesRow → List RawLine → List RawLine
background_then [] rest = rest
background_then (e ∷ es) rest = line.Background e.left e.right ∷ background_then es rest

abbrev pub values_then : List ValuesRow → List RawLine → List RawLine
values_then [] rest = rest
values_then (v ∷ vs) rest = line.Values v.sort v.values ∷ values_then vs rest

abbrev pub pools_then : List (List ValuesRow) → List RawLine → List RawLine
pools_then [] rest = rest
pools_then (p ∷ ps) rest = line.Pool ∷ values_then p (pools_then ps rest)

abbrev pub pool_lines : PoolRows → List RawLine
pool_lines (given pools) = pools_then pools (line.End ∷ [])
pool_lines (seeded seed height count) = line.End ∷ []

abbrev pub rule_line : PoolRows → RawLine
rule_line (given pools) = line.PoolsGiven
rule_line (seeded seed height count) = line.PoolsSeed seed height count

abbrev pub start_then : Version → ℕ → ℕ → ℕ → PoolRows → List RawLine → List RawLine
start_then (first vars width) size budget pairs pools rest =
    line.Head ∷ line.Vars vars ∷ line.Size size ∷ line.Width width ∷ line.Budget budget ∷ line.Pairs pairs ∷ rule_line pools ∷ rest
start_then second size budget pairs pools rest = line.Head2 ∷ line.Size size ∷ line.Budget budget ∷ line.Pairs pairs ∷ rule_line pools ∷ rest
start_then third size budget pairs pools rest = line.Head3 ∷ line.Size size ∷ line.Budget budget ∷ line.Pairs pairs ∷ rule_line pools ∷ rest

abbrev pub tail_lines : Layout → List RawLine
tail_lines l = line.Explore l.explored ∷ background_then l.background (pool_lines l.pools)

abbrev pub declared_lines : Layout → List RawLine
declared_lines l = sorts_then l.version l.sorts (funs_then l.version l.funs (tail_lines l))

abbrev pub layout_lines : Layout → List RawLine
layout_lines l = start_then l.version l.size l.budget l.pairs l.pools (declared_lines l)

-- The numbers that a version states elsewhere, or not at all

abbrev pub FitsSort : Version → SortRow → Type 0
FitsSort (first vars width) s = (s.vars ≡ vars) × (s.width ≡ width)
FitsSort second s = Unit {0}
FitsSort third s = Unit {0}

abbrev pub FitsWeight : Version → ℕ → Type 0
FitsWeight (first vars width) weight = weight ≡ 1
FitsWeight second weight = weight ≡ 1
FitsWeight third weight = Unit {0}

abbrev pub FitsCon : Version → ConRow → Type 0
FitsCon version c = FitsWeight version c.weight

abbrev pub FitsFun : Version → FunRow → Type 0
FitsFun version f = FitsWeight version f.weight

abbrev pub FitsSortRow : Version → SortRow → Type 0
FitsSortRow version s = FitsSort version s × Each (FitsCon version) s.cons

abbrev pub HasPools : PoolRows → Type 0
HasPools (given []) = ⊥
HasPools (given (p ∷ ps)) = Unit {0}
HasPools (seeded seed height count) = Unit {0}

abbrev pub HasSorts : List SortRow → Type 0
HasSorts [] = ⊥
HasSorts (s ∷ ss) = Unit {0}

pub record IsLayout (lines : List RawLine) (l : Layout) : Type 0 where
  pub lines_are : lines ≡ layout_lines l
  pub sorts_fit : Each (FitsSortRow l.version) l.sorts
  pub funs_fit : Each (FitsFun l.version) l.funs
  pub has_sorts : HasSorts l.sorts
  pub has_pools : HasPools l.pools

-- What a grammar reads from lines, and the lines that it leaves

pub record OneLine (s : Shape) (lines rest : List RawLine) : Type 0 where
  pub l : RawLine
  pub starts : lines ≡ l ∷ rest
  pub shape_is : shape_of l ≡ s

pub record Then (P Q : List RawLine → List RawLine → Type 0) (lines rest : List RawLine) : Type 0 where
  pub mid : List RawLine
  pub front : P lines mid
  pub back : Q mid rest

pub data Many (P : List RawLine → List RawLine → Type 0) : List RawLine → List RawLine → Type 0 where
  stop : (lines rest : List RawLine) → lines ≡ rest → Many P lines rest
  more : (lines mid rest : List RawLine) → P lines mid → Many P mid rest → Many P lines rest

abbrev pub From : Grammar Shape → List RawLine → List RawLine → Type 0
From never lines rest = ⊥
From empty lines rest = lines ≡ rest
From (one s) lines rest = OneLine s lines rest
From (series g h) lines rest = Then (From g) (From h) lines rest
From (either g h) lines rest = From g lines rest ⊎ From h lines rest
From (many g) lines rest = Many (From g) lines rest

pub record Cut (front back : List Shape) (xs : List RawLine) : Type 0 where
  pub left : List RawLine
  pub right : List RawLine
  pub is : xs ≡ left ++ right
  pub lefts : map shape_of left ≡ front
  pub rights : map shape_of right ≡ back

head_is : (a b : Shape) (ss ts : List Shape) → a ∷ ss ≡ b ∷ ts → (a ≡ b) × (ss ≡ ts)
head_is a b ss ts e = (cc, cc)

cut : (front back : List Shape) (xs : List RawLine) → map shape_of xs ≡ front ++ back → Cut front back xs
cut [] back xs e = record { left = []; right = xs; is = refl; lefts = refl; rights = e }
cut (s ∷ front) back [] e = cc
cut (s ∷ front) back (x ∷ xs) e =
    let h = head_is (shape_of x) s (map shape_of xs) (front ++ back) e in
    let c = cut front back xs h.1 in
    record { left = x ∷ c.left; right = c.right; is = ap (λ l. x ∷ l) c.is; lefts = ap₂ ◌∷◌ h.0 c.lefts; rights = c.rights }

empty_is : (xs rest : List RawLine) → map shape_of xs ≡ [] → xs ++ rest ≡ rest
empty_is [] rest e = refl
empty_is (x ∷ xs) rest e = cc

one_is : (s : Shape) (xs rest : List RawLine) → map shape_of xs ≡ s ∷ [] → OneLine s (xs ++ rest) rest
one_is s [] rest e = cc
one_is s (x ∷ xs) rest e =
    let h = head_is (shape_of x) s (map shape_of xs) [] e in
    record { l = x; starts = ap (λ l. x ∷ l) (empty_is xs rest h.1); shape_is = h.0 }

abbrev Reads : Grammar Shape → Type 0
Reads g = (xs rest : List RawLine) → Spells g (map shape_of xs) → From g (xs ++ rest) rest

many_from : (g : Grammar Shape) → Reads g → (rows : List (List Shape)) (xs rest : List RawLine) → map shape_of xs ≡ flat_map (λ r. r) rows
    → AllByRecursion (Spells g) rows → Many (From g) (xs ++ rest) rest
many_from g reads [] xs rest e all = Many.stop (xs ++ rest) rest (empty_is xs rest e)
many_from g reads (r ∷ rows) xs rest e all =
    let c = cut r (flat_map (λ r. r) rows) xs e in
    Many.more (xs ++ rest) (c.right ++ rest) rest
    (subst (λ z. From g z (c.right ++ rest)) (sym (append_assoc c.left c.right rest) ∙ sym (ap (λ z. z ++ rest) c.is))
    (reads c.left (c.right ++ rest) (subst (Spells g) (sym c.lefts) all.0)))
    (many_from g reads rows c.right rest c.rights all.1)

pub reads : (g : Grammar Shape) → Reads g
reads never xs rest h = absurd h
reads empty xs rest h = empty_is xs rest h
reads (one s) xs rest h = one_is s xs rest h
reads (series g h) xs rest sp =
    let c = cut sp.0 sp.1 xs sp.2 in
    record {
      mid = c.right ++ rest;
      front = subst (λ z. From g z (c.right ++ rest)) (sym (append_assoc c.left c.right rest) ∙ sym (ap (λ z. z ++ rest) c.is))
          (reads g c.left (c.right ++ rest) (subst (Spells g) (sym c.lefts) sp.3));
      back = reads h c.right rest (subst (Spells h) (sym c.rights) sp.4);
    }
reads (either g h) xs rest (inl sp) = inl (reads g xs rest sp)
reads (either g h) xs rest (inr sp) = inr (reads h xs rest sp)
reads (many g) xs rest sp = many_from g (reads g) sp.0 xs rest sp.1 sp.2
