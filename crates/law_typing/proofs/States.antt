-- A text in its parts, and what it states: the two hang together part by part.
use Rattle.std.proofs.Common.{◌≡◌, ℕ, ◌≤◌, List, [], ◌∷◌, ◌++◌, map, Option, Some, None, arith, refl, sym, ap, ap₂, ◌∙◌}
use Rattle.law_sig.specs.Lists.{Each}
use Rattle.law_sig.specs.declared.parts.Sym.{Sym}
use Rattle.law_sig.specs.declared.parts.Sym.TheVariants as sym
use Rattle.law_sig.specs.declared.parts.SigParts.{SigParts}
use Rattle.law_laws.proofs.BodyFacts.{some_is, none_is}
use Rattle.law_lines.specs.declared.raw.RawLine.{RawLine}
use Rattle.law_lines.specs.declared.raw.RawLine.TheVariants as line
use Rattle.law_typing.specs.Declarations.{sort_in, declared_in, sorts_after, constructor, function, added, symbols_from, whole}
use Rattle.law_typing.specs.LineFaults.{nothing_seen, after_sort, after_symbol}
use Rattle.law_typing.specs.Stated.{short, symbol_id, filled, stated_symbols, stated}
use Rattle.law_typing.specs.declared.seen.Seen.{Seen}
use Rattle.law_typing.specs.declared.whole.Whole.{Whole}
use Rattle.law_typing.proofs.SideFacts.{Declares, headed}
use Rattle.law_typing.proofs.Laid.{ConRow, SortRow, FunRow, Layout, tail_lines, layout_lines, FitsFun, FitsSortRow, HasPools, HasSorts}
use Rattle.law_typing.proofs.Gathered.{per_con, told_sorts, told_names}
use Rattle.law_typing.proofs.Told.{told_vars, told_widths, told_weights, told_explored, told_background, told_size, told_budget, told_pairs, told_pools, told_symbols, stated_sides, stated_pool_rule, con_syms, fun_syms}
use Rattle.law_typing.proofs.Passed.{AllGood, SortsGood, ConsGood, FunsGood, cons_seen, sorts_seen, rules_seen}
use Rattle.law_typing.proofs.Spelled.{AllSpelled}

pub record States (text : Whole) (parts : SigParts) (l : Layout) : Type 0 where
  pub declares : Declares text parts
  pub sorts : text.sorts ≡ map (λ (s : SortRow). s.name) l.sorts
  pub names : text.names ≡ per_con (λ c. c.name) l.sorts ++ map (λ (r : FunRow). r.name) l.funs
  pub text_widths : text.widths ≡ map (λ (s : SortRow). s.width) l.sorts
  pub symbols : parts.symbols ≡ con_syms text.sorts 0 l.sorts ++ fun_syms text l.version l.funs (tail_lines l)
  pub vars : parts.settings.vars ≡ map (λ (s : SortRow). s.vars) l.sorts
  pub width : parts.settings.width ≡ map (λ (s : SortRow). s.width) l.sorts
  pub size : parts.settings.size ≡ l.size
  pub budget : parts.settings.budget ≡ l.budget
  pub pairs : parts.settings.pairs ≡ l.pairs
  pub weights : parts.settings.weights ≡ per_con (λ c. c.weight) l.sorts ++ map (λ (r : FunRow). r.weight) l.funs
  pub explored : parts.settings.explored ≡ map (symbol_id text) l.explored
  pub background : parts.settings.background ≡ map (stated_sides text) l.background
  pub pools : parts.settings.pools ≡ stated_pool_rule text l.pools

-- all that is known of a text without faults
pub record Sound (text : Whole) (parts : SigParts) (l : Layout) : Type 0 where
  pub states : States text parts l
  pub good : AllGood text l
  pub spelled : AllSpelled l
  pub has_sorts : HasSorts l.sorts
  pub has_pools : HasPools l.pools
  pub sorts_fit : Each (FitsSortRow l.version) l.sorts
  pub funs_fit : Each (FitsFun l.version) l.funs

-- Symbols without their bodies

headed_here : (sorts : List (List ℕ)) (before : ℕ) (l : RawLine) (s : Sym) → declared_in sorts before l ≡ Some s → headed s ≡ s
headed_here sorts before line.Head s e = none_is s e
headed_here sorts before line.Head2 s e = none_is s e
headed_here sorts before line.Head3 s e = none_is s e
headed_here sorts before (line.Vars n) s e = none_is s e
headed_here sorts before (line.Size n) s e = none_is s e
headed_here sorts before (line.Width n) s e = none_is s e
headed_here sorts before (line.Budget n) s e = none_is s e
headed_here sorts before (line.Pairs n) s e = none_is s e
headed_here sorts before line.PoolsGiven s e = none_is s e
headed_here sorts before (line.PoolsSeed a b c) s e = none_is s e
headed_here sorts before (line.SortLine n) s e = none_is s e
headed_here sorts before (line.SortLine2 n v w) s e = none_is s e
headed_here sorts before (line.ConLine n a) s e = ap headed (sym (some_is (constructor sorts before a) s e)) ∙ some_is (constructor sorts before a) s e
headed_here sorts before (line.ConLine3 w n a) s e = ap headed (sym (some_is (constructor sorts before a) s e)) ∙ some_is (constructor sorts before a) s e
headed_here sorts before (line.FunLine n a r) s e = ap headed (sym (some_is (function sorts a r) s e)) ∙ some_is (function sorts a r) s e
headed_here sorts before (line.FunLine3 w n a r) s e = ap headed (sym (some_is (function sorts a r) s e)) ∙ some_is (function sorts a r) s e
headed_here sorts before (line.MatchLine n) s e = none_is s e
headed_here sorts before (line.BodyLine b) s e = none_is s e
headed_here sorts before (line.CaseLine c b) s e = none_is s e
headed_here sorts before (line.Explore n) s e = none_is s e
headed_here sorts before (line.Background a b) s e = none_is s e
headed_here sorts before line.Pool s e = none_is s e
headed_here sorts before (line.Values q v) s e = none_is s e
headed_here sorts before line.End s e = none_is s e

one_headed : (text : Whole) (rest : List RawLine) (o : Option Sym) (xs ys : List Sym) → ((s : Sym) → o ≡ Some s → headed s ≡ s) → xs ≡ map headed ys
    → added o xs ≡ map headed (added (filled text rest o) ys)
one_headed text rest None xs ys h e = e
one_headed text rest (Some (sym.Con con)) xs ys h e = ap₂ ◌∷◌ (sym (h (sym.Con con) refl)) e
one_headed text rest (Some (sym.Fun fun)) xs ys h e = ap₂ ◌∷◌ (sym (h (sym.Fun fun) refl)) e

pub headed_symbols : (text : Whole) (before : ℕ) (lines : List RawLine) → symbols_from text.sorts before lines ≡ map headed (stated_symbols text before lines)
headed_symbols text before [] = refl
headed_symbols text before (l ∷ lines) = one_headed text lines (declared_in text.sorts before l) (symbols_from text.sorts (sorts_after before (sort_in l)) lines)
    (stated_symbols text (sorts_after before (sort_in l)) lines) (headed_here text.sorts before l) (headed_symbols text (sorts_after before (sort_in l)) lines)

-- Numbers in range are as they were

pub short_is : (n : ℕ) → n ≤ 4294967295 → short n ≡ n
short_is n h = omega arith

all_short : (xs : List ℕ) → Each (λ n. n ≤ 4294967295) xs → map short xs ≡ xs
all_short [] h = refl
all_short (x ∷ xs) h = ap₂ ◌∷◌ (short_is x h.0) (all_short xs h.1)

vars_low : (text : Whole) (seen : Seen) (ss : List SortRow) → SortsGood text seen ss → Each (λ n. n ≤ 4294967295) (map (λ (s : SortRow). s.vars) ss)
vars_low text seen [] h = tt
vars_low text seen (s ∷ ss) h = let k : s.vars ≤ 4294967295 = omega (arith, h.0.vars.1) in (k, vars_low text (cons_seen (after_sort seen) s.cons) ss h.2)

widths_low : (text : Whole) (seen : Seen) (ss : List SortRow) → SortsGood text seen ss → Each (λ n. n ≤ 4294967295) (map (λ (s : SortRow). s.width) ss)
widths_low text seen [] h = tt
widths_low text seen (s ∷ ss) h = let k : s.width ≤ 4294967295 = omega (arith, h.0.width.1) in (k, widths_low text (cons_seen (after_sort seen) s.cons) ss h.2)

cons_weights : (text : Whole) (seen : Seen) (cs : List ConRow) → ConsGood text seen cs → map (λ (c : ConRow). short c.weight) cs ≡ map (λ (c : ConRow). c.weight) cs
cons_weights text seen [] h = refl
cons_weights text seen (c ∷ cs) h = let k : c.weight ≤ 4294967295 = omega (arith, h.0.weight.1) in
    ap₂ ◌∷◌ (short_is c.weight k) (cons_weights text (after_symbol seen) cs h.1)

sorts_weights : (text : Whole) (seen : Seen) (ss : List SortRow) → SortsGood text seen ss → per_con (λ c. short c.weight) ss ≡ per_con (λ c. c.weight) ss
sorts_weights text seen [] h = refl
sorts_weights text seen (s ∷ ss) h = ap₂ ◌++◌ (cons_weights text (after_sort seen) s.cons h.1) (sorts_weights text (cons_seen (after_sort seen) s.cons) ss h.2)

funs_weights : (text : Whole) (l : Layout) (seen : Seen) (fs : List FunRow) → FunsGood text l.version seen fs (tail_lines l) → map (λ (r : FunRow). short r.weight) fs ≡ map (λ (r : FunRow). r.weight) fs
funs_weights text l seen [] h = refl
funs_weights text l seen (r ∷ fs) h = let k : r.weight ≤ 4294967295 = omega (arith, h.0.weight.1) in
    ap₂ ◌∷◌ (short_is r.weight k) (funs_weights text l (rules_seen (after_symbol seen) r.rules) fs h.2)

pub states_all : (l : Layout) → Each (FitsSortRow l.version) l.sorts → Each (FitsFun l.version) l.funs → AllGood (whole (layout_lines l)) l
    → States (whole (layout_lines l)) (stated (whole (layout_lines l)) (layout_lines l)) l
states_all l fit fits good =
    let text = whole (layout_lines l) in
    let vars = told_vars l fit in
    let widths = told_widths l fit in
    let vars_short : map short text.vars ≡ map (λ (s : SortRow). s.vars) l.sorts = ap (map short) vars ∙ all_short (map (λ (s : SortRow). s.vars) l.sorts) (vars_low text nothing_seen l.sorts good.sorts) in
    let size_low : l.size ≤ 4294967295 = omega (arith, good.start.size.1) in
    let pairs_low : l.pairs ≤ 4294967295 = omega (arith, good.start.pairs.1) in
    record {
      declares = record { sorts = refl; names = refl; symbols = headed_symbols text 0 (layout_lines l); vars = vars ∙ sym vars_short };
      sorts = told_sorts l;
      names = told_names l;
      text_widths = widths;
      symbols = told_symbols text l;
      vars = vars_short;
      width = ap (map short) widths ∙ all_short (map (λ (s : SortRow). s.width) l.sorts) (widths_low text nothing_seen l.sorts good.sorts);
      size = ap short (told_size l) ∙ short_is l.size size_low;
      budget = told_budget l;
      pairs = ap short (told_pairs l) ∙ short_is l.pairs pairs_low;
      weights = told_weights l fit fits ∙ ap₂ ◌++◌ (sorts_weights text nothing_seen l.sorts good.sorts)
          (funs_weights text l (sorts_seen nothing_seen l.sorts) l.funs good.funs);
      explored = told_explored text l;
      background = told_background text l;
      pools = told_pools text l;
    }
