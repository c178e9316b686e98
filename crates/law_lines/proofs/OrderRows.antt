-- Grammars of the order of lines that spell the same rows.
use Rattle.std.proofs.Common.{◌≡◌, List, [], ◌∷◌, ◌++◌, refl, ap, sym, subst, ◌∙◌, append_assoc, inl, inr}
use Rattle.std.proofs.lemmas.List.{append-nil}
use Rattle.std.specs.List.{flat_map, AllByRecursion}
use Rattle.law_lines.specs.declared.shape.Shape.{Shape}
use Rattle.law_lines.specs.Grammar.{Grammar, Spells, some}
use Rattle.law_lines.specs.Grammar.Grammar.{never, empty, one, series, either, many}

abbrev pub Row : Type 0
Row = List Shape

pub record Same (g h : Grammar Shape) : Type 0 where
  pub there : (row : Row) → Spells g row → Spells h row
  pub back : (row : Row) → Spells h row → Spells g row

pub same : (g : Grammar Shape) → Same g g
same g = record { there = λ row d. d; back = λ row d. d }

pub and_same : (g h i : Grammar Shape) → Same g h → Same h i → Same g i
and_same g h i a b = record { there = λ row d. b.there row (a.there row d); back = λ row d. a.back row (b.back row d) }

either_to : (g h i j : Grammar Shape) (row : Row) → (Spells g row → Spells i row) → (Spells h row → Spells j row) → Spells (either g h) row → Spells (either i j) row
either_to g h i j row a b (inl d) = inl (a d)
either_to g h i j row a b (inr d) = inr (b d)

pub either_same : (g h i j : Grammar Shape) → Same g i → Same h j → Same (either g h) (either i j)
either_same g h i j a b = record { there = λ row. either_to g h i j row (a.there row) (b.there row); back = λ row. either_to i j g h row (a.back row) (b.back row) }

alone : (g : Grammar Shape) (row : Row) → Spells (either g never) row → Spells g row
alone g row (inl d) = d
alone g row (inr d) = absurd d

-- the last of some choices
pub last_same : (g : Grammar Shape) → Same g (either g never)
last_same g = record { there = λ row d. inl d; back = alone g }

regroup : (g h i : Grammar Shape) (row : Row) → Spells (series g (series h i)) row → Spells (series (series g h) i) row
regroup g h i row (f, r, e, a, (f2, r2, e2, b, c)) = (f ++ f2, r2, e ∙ ap (λ l. f ++ l) e2 ∙ sym (append_assoc f f2 r2), (f, f2, refl, a, b), c)

ungroup : (g h i : Grammar Shape) (row : Row) → Spells (series (series g h) i) row → Spells (series g (series h i)) row
ungroup g h i row (f, r, e, (f2, r2, e2, a, b), c) = (f2, r2 ++ r, e ∙ ap (λ l. l ++ r) e2 ∙ append_assoc f2 r2 r, a, (r2, r, refl, b, c))

pub series_same : (g h i : Grammar Shape) → Same (series (series g h) i) (series g (series h i))
series_same g h i = record { there = ungroup g h i; back = regroup g h i }

apart : (g h i : Grammar Shape) (row : Row) → Spells (series (either g h) i) row → Spells (either (series g i) (series h i)) row
apart g h i row (f, r, e, inl a, b) = inl (f, r, e, a, b)
apart g h i row (f, r, e, inr a, b) = inr (f, r, e, a, b)

shared : (g h i : Grammar Shape) (row : Row) → Spells (either (series g i) (series h i)) row → Spells (series (either g h) i) row
shared g h i row (inl (f, r, e, a, b)) = (f, r, e, inl a, b)
shared g h i row (inr (f, r, e, a, b)) = (f, r, e, inr a, b)

pub choice_same : (g h i : Grammar Shape) → Same (series (either g h) i) (either (series g i) (series h i))
choice_same g h i = record { there = apart g h i; back = shared g h i }

unrolled : (g h : Grammar Shape) (row r : Row) (rows : List Row) → row ≡ flat_map (λ r. r) rows ++ r → AllByRecursion (Spells g) rows → Spells h r
    → Spells (either (series g (series (many g) h)) h) row
unrolled g h row r [] e all c = inr (subst (Spells h) (sym e) c)
unrolled g h row r (x ∷ rows) e all c =
    inl (x, flat_map (λ r. r) rows ++ r, e ∙ append_assoc x (flat_map (λ r. r) rows) r, all.0, (flat_map (λ r. r) rows, r, refl, (rows, refl, all.1), c))

unroll : (g h : Grammar Shape) (row : Row) → Spells (series (many g) h) row → Spells (either (series g (series (many g) h)) h) row
unroll g h row (f, r, e, (rows, e2, all), c) = unrolled g h row r rows (e ∙ ap (λ l. l ++ r) e2) all c

roll : (g h : Grammar Shape) (row : Row) → Spells (either (series g (series (many g) h)) h) row → Spells (series (many g) h) row
roll g h row (inl (f, r, e, a, (f2, r2, e2, (rows, e3, all), c))) =
    (f ++ f2, r2, e ∙ ap (λ l. f ++ l) e2 ∙ sym (append_assoc f f2 r2), (f ∷ rows, ap (λ l. f ++ l) e3, (a, all)), c)
roll g h row (inr d) = ([], row, refl, ([], refl, tt), d)

pub many_same : (g h : Grammar Shape) → Same (series (many g) h) (either (series g (series (many g) h)) h)
many_same g h = record { there = unroll g h; back = roll g h }

-- at least one, and what follows
pub some_same : (g h : Grammar Shape) → Same (series (some g) h) (series g (series (many g) h))
some_same g h = series_same g (many g) h

over : (s : Shape) (row : Row) → Spells (series (one s) empty) row → Spells (one s) row
over s row (f, r, e, a, b) = e ∙ ap (λ l. f ++ l) b ∙ append-nil f ∙ a

pub end_same : (s : Shape) → Same (one s) (series (one s) empty)
end_same s = record { there = λ row d. (row, [], sym (append-nil row), d, refl); back = over s }

-- the first piece of a row
pub first : (s : Shape) (h : Grammar Shape) (row : Row) → Spells h row → Spells (series (one s) h) (s ∷ row)
first s h row d = (s ∷ [], row, refl, refl, d)

pub first_is : (s t : Shape) (h : Grammar Shape) (row : Row) → Spells (series (one s) h) (t ∷ row) → (t ≡ s) × Spells h row
first_is s t h row (f, r, e, a, b) = let k : t ∷ row ≡ s ∷ r = e ∙ ap (λ l. l ++ r) a in let m : row ≡ r = cc in (cc, subst (Spells h) (sym m) b)

pub first_not : (s : Shape) (h : Grammar Shape) → Spells (series (one s) h) [] → ⊥
first_not s h (f, r, e, a, b) = let k : [] ≡ s ∷ r = e ∙ ap (λ l. l ++ r) a in cc
