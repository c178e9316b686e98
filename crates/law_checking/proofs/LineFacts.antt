-- What the lines of a tree say of it.
use Rattle.std.proofs.Common.{◌≡◌, ℕ, suc, ◌+◌, ◌<◌, Bool, true, false, if◌then◌else◌, List, [], ◌∷◌, ◌++◌, map, length, sym, refl, ap, ap₂, ◌∙◌, subst, append-nil, append_assoc, arith}
use Rattle.std.proofs.lemmas.List.{length-map}
use Rattle.law_sig.specs.Lists.{Each}
use Rattle.law_sig.specs.Trees.{joined}
use Rattle.law_sig.specs.declared.tree.Tree.{Tree}
use Rattle.law_cert_text.specs.declared.cert.TreeLine.{TreeLine}
use Rattle.law_cert_text.specs.declared.cert.TreeLine.TheVariants as line
use Rattle.law_valid.specs.declared.certificate.Branch.{Branch}
use Rattle.law_valid.specs.declared.certificate.Branch.TheOpen as b
use Rattle.law_valid.specs.declared.certificate.Branch.TheVariants.{Leaf, Split, rolls-Leaf, rolls-Split}
use Rattle.law_valid.specs.declared.certificate.Branch.TheFolds.{fold-roll-Branch}
use Rattle.law_valid.specs.declared.certificate.Class.{Class}
use Rattle.law_valid.specs.declared.rule.Rule.TheVariants as r
use Rattle.law_valid.specs.Splits.{Cut, leaves_of, cuts_of, tests_of}
use Rattle.law_valid.specs.Trees.{schemas_of, schemas_in}
use Rattle.law_valid.specs.Judged.{Judging, Whole, whole, whole_step, of_term_cut, of_schema_cut}
use Rattle.law_named.specs.Named.{term_lines, schema_lines}
use Rattle.law_laws.proofs.ListFacts.{each_left, each_right, each_both}
use Rattle.law_valid.proofs.Apart.{branch_induct, leaves-Leaf, leaves-Split, cuts-Leaf, cuts-Split, root_cut, map_twice, map_parts, joined_parts}
use Rattle.law_named.proofs.Reading.{term-Leaf, term-Split, schema-Leaf, schema-Split}
use Rattle.law_checking.specs.declared.part.Part.{Part}
use Rattle.law_checking.specs.declared.part.Part.TheVariants.{Schemas, Leaves, Tests}
use Rattle.law_checking.specs.Lines.{arity, HasKid, taken, behind, part_of, parts_of, kids_of, is_upper, along, upper_at, upper_tests, Held, held_at, held_in, judging, judging_at, judgings}

-- Lists

each_mapped : {A B : Type 0} (P : B → Type 0) (f : A → B) (xs : List A) → Each (λ x. P (f x)) xs → Each P (map f xs)
each_mapped P f [] h = tt
each_mapped P f (x ∷ xs) h = (h.0, each_mapped P f xs h.1)

map_same : {A B : Type 0} (f g : A → B) (xs : List A) → Each (λ x. f x ≡ g x) xs → map f xs ≡ map g xs
map_same f g [] h = refl
map_same f g (x ∷ xs) h = ap₂ ◌∷◌ h.0 (map_same f g xs h.1)

map_joined : {A B : Type 0} (f : A → B) (xss : List (List A)) → map f (joined xss) ≡ joined (map (map f) xss)
map_joined f [] = refl
map_joined f (xs ∷ xss) = map_parts f xs (joined xss) ∙ ap (λ l. map f xs ++ l) (map_joined f xss)

joined_joined : {A B : Type 0} (f : A → List B) (xss : List (List A)) → joined (map f (joined xss)) ≡ joined (map (λ xs. joined (map f xs)) xss)
joined_joined f [] = refl
joined_joined f (xs ∷ xss) =
    ap joined (map_parts f xs (joined xss)) ∙ joined_parts (map f xs) (map f (joined xss)) ∙ ap (λ l. joined (map f xs) ++ l) (joined_joined f xss)

joined_none : {A B : Type 0} (xs : List A) → ◌≡◌ {A = List B} (joined (map (λ x. []) xs)) []
joined_none [] = refl
joined_none (x ∷ xs) = joined_none xs

-- Whole trees

-- these lines are one tree, whatever follows
abbrev IsWhole : List TreeLine → Type 0
IsWhole xs = (n : ℕ) (rest : List TreeLine) → (taken (suc n) (xs ++ rest) ≡ xs ++ taken n rest) × (behind (suc n) (xs ++ rest) ≡ behind n rest)

all_whole : (xss : List (List TreeLine)) → Each IsWhole xss → (n : ℕ) (rest : List TreeLine)
    → (taken (n + length xss) (joined xss ++ rest) ≡ joined xss ++ taken n rest) × (behind (n + length xss) (joined xss ++ rest) ≡ behind n rest)
all_whole [] have n rest = let on : n + 0 ≡ n = omega arith in (ap (λ k. taken k rest) on, ap (λ k. behind k rest) on)
all_whole (xs ∷ xss) have n rest =
    let on : n + suc (length xss) ≡ suc (n + length xss) = omega arith in
    let first = have.0 (n + length xss) (joined xss ++ rest) in
    let others = all_whole xss have.1 n rest in
    let split = append_assoc xs (joined xss) rest in (
      ap₂ taken on split ∙ first.0 ∙ ap (λ l. xs ++ l) others.0 ∙ sym (append_assoc xs (joined xss) (taken n rest)),
      ap₂ behind on split ∙ first.1 ∙ others.1,
    )

whole_node : (l : TreeLine) (xss : List (List TreeLine)) → arity l ≡ length xss → Each IsWhole xss → IsWhole (l ∷ joined xss)
whole_node l xss same have n rest =
    let h = all_whole xss have n rest in (
      ap (λ k. l ∷ taken (n + k) (joined xss ++ rest)) same ∙ ap (λ ls. l ∷ ls) h.0,
      ap (λ k. behind (n + k) (joined xss ++ rest)) same ∙ h.1,
    )

term_whole : (t : Branch ℕ) → IsWhole (term_lines t)
term_whole = branch_induct ℕ (λ t. IsWhole (term_lines t))
    (λ n. subst IsWhole (sym (term-Leaf n)) (whole_node (line.Leaf n) [] refl tt))
    (λ test kids have. subst IsWhole (sym (term-Split test kids))
    (whole_node (line.Split test (length kids)) (map term_lines kids) (sym (length-map kids term_lines)) (each_mapped IsWhole term_lines kids have)))

schema_whole : (t : Branch Class) → IsWhole (schema_lines t)
schema_whole = branch_induct Class (λ t. IsWhole (schema_lines t))
    (λ class. subst IsWhole (ap (λ l. line.Class class.schemas ∷ l) (append-nil (term_lines class.terms)) ∙ sym (schema-Leaf class))
    (whole_node (line.Class class.schemas) (term_lines class.terms ∷ []) refl (term_whole class.terms, tt)))
    (λ test kids have. subst IsWhole (sym (schema-Split test kids))
    (whole_node (line.Split test (length kids)) (map schema_lines kids) (sym (length-map kids schema_lines)) (each_mapped IsWhole schema_lines kids have)))

-- a class's own tree
first_is : (t : Branch ℕ) (rest : List TreeLine) → taken 1 (term_lines t ++ rest) ≡ term_lines t
first_is t rest = (term_whole t 0 rest).0 ∙ append-nil (term_lines t)

-- Kids

none_whole : IsWhole [] → ⊥
none_whole have = let e = (have 0 (line.Leaf 0 ∷ [])).0 in cc

kids_whole : (part : Part) (xss : List (List TreeLine)) → Each IsWhole xss → (rest : List TreeLine)
    → kids_of part (length xss) (joined xss ++ rest) ≡ map (parts_of part) xss
kids_whole part [] have rest = refl
kids_whole part ([] ∷ xss) have rest = absurd (none_whole have.0)
kids_whole part ((x ∷ xs) ∷ xss) have rest =
    let split = append_assoc (x ∷ xs) (joined xss) rest in
    let first = have.0 0 (joined xss ++ rest) in
    ap₂ ◌∷◌ (ap (parts_of part) (ap (taken 1) split ∙ first.0 ∙ append-nil (x ∷ xs)))
    (ap (kids_of part (length xss)) (ap (behind 1) split ∙ first.1) ∙ kids_whole part xss have.1 rest)

kids_are : (L : Type 0) (f : Branch L → List TreeLine) → ((t : Branch L) → IsWhole (f t)) → (part : Part) (kids : List (Branch L)) (rest : List TreeLine)
    → kids_of part (length kids) (joined (map f kids) ++ rest) ≡ map (λ k. parts_of part (f k)) kids
kids_are L f whole part kids rest =
    ap (λ n. kids_of part n (joined (map f kids) ++ rest)) (sym (length-map kids f))
    ∙ kids_whole part (map f kids) (each_mapped IsWhole f kids (every kids)) rest ∙ map_twice f (parts_of part) kids
  where
    every : (ks : List (Branch L)) → Each (λ k. IsWhole (f k)) ks
    every [] = tt
    every (k ∷ ks) = (whole k, every ks)

-- Parts

parts_joined : (part : Part) (xss : List (List TreeLine)) → parts_of part (joined xss) ≡ joined (map (parts_of part) xss)
parts_joined part xss = joined_joined (part_of part) xss

parts_below : (L : Type 0) (f : Branch L → List TreeLine) (part : Part) (T : Branch L → List ℕ) (kids : List (Branch L)) → Each (λ k. parts_of part (f k) ≡ T k) kids
    → parts_of part (joined (map f kids)) ≡ joined (map T kids)
parts_below L f part T kids have =
    parts_joined part (map f kids) ∙ ap joined (map_twice f (parts_of part) kids ∙ map_same (λ k. parts_of part (f k)) T kids have)

pub term_leaves : (t : Branch ℕ) → parts_of Leaves (term_lines t) ≡ leaves_of t
term_leaves = branch_induct ℕ (λ t. parts_of Leaves (term_lines t) ≡ leaves_of t)
    (λ n. ap (parts_of Leaves) (term-Leaf n) ∙ sym (leaves-Leaf ℕ n))
    (λ test kids have. ap (parts_of Leaves) (term-Split test kids) ∙ parts_below ℕ term_lines Leaves leaves_of kids have ∙ sym (leaves-Split ℕ test kids))

term_schemas : (t : Branch ℕ) → parts_of Schemas (term_lines t) ≡ []
term_schemas = branch_induct ℕ (λ t. parts_of Schemas (term_lines t) ≡ [])
    (λ n. ap (parts_of Schemas) (term-Leaf n))
    (λ test kids have. ap (parts_of Schemas) (term-Split test kids) ∙ parts_below ℕ term_lines Schemas (λ k. []) kids have ∙ joined_none kids)

tests-Split : (L : Type 0) (test : ℕ) (kids : List (Branch L)) → test ∷ joined (map tests_of kids) ≡ tests_of (Split test kids)
tests-Split L test kids = sym (ap (map (λ (cut : Cut L). cut.test)) (cuts-Split L test kids)
    ∙ ap (λ l. test ∷ l) (map_joined (λ (cut : Cut L). cut.test) (map cuts_of kids) ∙ ap joined (map_twice cuts_of (map (λ (cut : Cut L). cut.test)) kids)))

tests-Leaf : (L : Type 0) (x : L) → tests_of (Leaf x) ≡ []
tests-Leaf L x = ap (map (λ (cut : Cut L). cut.test)) (cuts-Leaf L x)

pub term_tests : (t : Branch ℕ) → parts_of Tests (term_lines t) ≡ tests_of t
term_tests = branch_induct ℕ (λ t. parts_of Tests (term_lines t) ≡ tests_of t)
    (λ n. ap (parts_of Tests) (term-Leaf n) ∙ sym (tests-Leaf ℕ n))
    (λ test kids have. ap (parts_of Tests) (term-Split test kids) ∙ ap (λ l. test ∷ l) (parts_below ℕ term_lines Tests tests_of kids have) ∙ tests-Split ℕ test kids)

schemas-Split : (test : ℕ) (kids : List (Branch Class)) → joined (map (λ k. schemas_in (leaves_of k)) kids) ≡ schemas_in (leaves_of (Split test kids))
schemas-Split test kids = sym (ap schemas_in (leaves-Split Class test kids) ∙ joined_joined schemas_of (map leaves_of kids) ∙ ap joined (map_twice leaves_of schemas_in kids))

pub schema_numbers : (t : Branch Class) → parts_of Schemas (schema_lines t) ≡ schemas_in (leaves_of t)
schema_numbers = branch_induct Class (λ t. parts_of Schemas (schema_lines t) ≡ schemas_in (leaves_of t))
    (λ class. ap (parts_of Schemas) (schema-Leaf class) ∙ ap (λ l. class.schemas ++ l) (term_schemas class.terms) ∙ sym (ap schemas_in (leaves-Leaf Class class)))
    (λ test kids have. ap (parts_of Schemas) (schema-Split test kids) ∙ parts_below Class schema_lines Schemas (λ k. schemas_in (leaves_of k)) kids have ∙ schemas-Split test kids)

-- Line by line

module _ (L : Type 0) (f : Branch L → List TreeLine) (f-Split : (test : ℕ) (kids : List (Branch L)) → f (Split test kids) ≡ line.Split test (length kids) ∷ joined (map f kids)) where
  -- the first line that isn't a split
  abbrev Level : Bool → Branch L → Type 0
  Level upper t = Each HasKid (f t) → (rest : List TreeLine) → is_upper (f t ++ rest) ≡ upper

  level_below : (upper : Bool) (kids : List (Branch L)) → 0 < length kids → Each (Level upper) kids → Each HasKid (joined (map f kids)) → (rest : List TreeLine)
      → is_upper (joined (map f kids) ++ rest) ≡ upper
  level_below upper [] some have full rest = absurd (omega arith)
  level_below upper (k ∷ kids) some have full rest =
      ap is_upper (append_assoc (f k) (joined (map f kids)) rest) ∙ have.0 (each_left HasKid (f k) (joined (map f kids)) full) (joined (map f kids) ++ rest)

  level : (upper : Bool) → ((x : L) → Level upper (Leaf x)) → (t : Branch L) → Level upper t
  level upper at_leaf = branch_induct L (Level upper) at_leaf (λ test kids have full rest.
      let own = subst (Each HasKid) (f-Split test kids) full in
      ap (λ l. is_upper (l ++ rest)) (f-Split test kids) ∙ level_below upper kids own.0 have own.1 rest)

  module _ {A : Type 0} (g : TreeLine → List TreeLine → List A) (T : Branch L → List A) where
    abbrev Gives : Branch L → Type 0
    Gives t = Each HasKid (f t) → (rest : List TreeLine) → along g (f t ++ rest) ≡ T t ++ along g rest

    all_give : (kids : List (Branch L)) → Each Gives kids → Each HasKid (joined (map f kids)) → (rest : List TreeLine)
        → along g (joined (map f kids) ++ rest) ≡ joined (map T kids) ++ along g rest
    all_give [] have full rest = refl
    all_give (k ∷ kids) have full rest =
        ap (along g) (append_assoc (f k) (joined (map f kids)) rest)
        ∙ have.0 (each_left HasKid (f k) (joined (map f kids)) full) (joined (map f kids) ++ rest)
        ∙ ap (λ l. T k ++ l) (all_give kids have.1 (each_right HasKid (f k) (joined (map f kids)) full) rest)
        ∙ sym (append_assoc (T k) (joined (map T kids)) (along g rest))

    along_branch : ((x : L) → Gives (Leaf x))
        → ((test : ℕ) (kids : List (Branch L)) → 0 < length kids → Each HasKid (joined (map f kids)) → (rest : List TreeLine)
        → g (line.Split test (length kids)) (joined (map f kids) ++ rest) ++ joined (map T kids) ≡ T (Split test kids))
        → (t : Branch L) → Gives t
    along_branch at_leaf at_split = branch_induct L Gives at_leaf (λ test kids have full rest.
        let own = subst (Each HasKid) (f-Split test kids) full in
        let mine = g (line.Split test (length kids)) (joined (map f kids) ++ rest) in
        ap (λ l. along g (l ++ rest)) (f-Split test kids)
        ∙ ap (λ l. mine ++ l) (all_give kids have own.1 rest)
        ∙ sym (append_assoc mine (joined (map T kids)) (along g rest))
        ∙ ap (λ l. l ++ along g rest) (at_split test kids own.0 own.1 rest))

-- Levels

term_level : (t : Branch ℕ) → Each HasKid (term_lines t) → (rest : List TreeLine) → is_upper (term_lines t ++ rest) ≡ false
term_level = level ℕ term_lines term-Split false (λ n full rest. ap (λ l. is_upper (l ++ rest)) (term-Leaf n))

schema_level : (t : Branch Class) → Each HasKid (schema_lines t) → (rest : List TreeLine) → is_upper (schema_lines t ++ rest) ≡ true
schema_level = level Class schema_lines schema-Split true (λ class full rest. ap (λ l. is_upper (l ++ rest)) (schema-Leaf class))

terms_level : (kids : List (Branch ℕ)) → 0 < length kids → Each HasKid (joined (map term_lines kids)) → (rest : List TreeLine) → is_upper (joined (map term_lines kids) ++ rest) ≡ false
terms_level kids some full rest = level_below ℕ term_lines term-Split false kids some (every kids) full rest
  where
    every : (ks : List (Branch ℕ)) → Each (λ t. Each HasKid (term_lines t) → (rest : List TreeLine) → is_upper (term_lines t ++ rest) ≡ false) ks
    every [] = tt
    every (k ∷ ks) = (term_level k, every ks)

schemas_level : (kids : List (Branch Class)) → 0 < length kids → Each HasKid (joined (map schema_lines kids)) → (rest : List TreeLine)
    → is_upper (joined (map schema_lines kids) ++ rest) ≡ true
schemas_level kids some full rest = level_below Class schema_lines schema-Split true kids some (every kids) full rest
  where
    every : (ks : List (Branch Class)) → Each (λ t. Each HasKid (schema_lines t) → (rest : List TreeLine) → is_upper (schema_lines t ++ rest) ≡ true) ks
    every [] = tt
    every (k ∷ ks) = (schema_level k, every ks)

-- what is behind a class's line has children where the whole has
class_full : (class : Class) → Each HasKid (schema_lines (Leaf class)) → Each HasKid (term_lines class.terms)
class_full class full = (subst (Each HasKid) (schema-Leaf class) full).1

-- The tests of splits above classes

term_upper : (t : Branch ℕ) → Each HasKid (term_lines t) → (rest : List TreeLine) → upper_tests (term_lines t ++ rest) ≡ upper_tests rest
term_upper = along_branch ℕ term_lines term-Split upper_at (λ t. [])
    (λ n full rest. ap (λ l. upper_tests (l ++ rest)) (term-Leaf n))
    (λ test kids some full rest. ap (λ u. (if u then test ∷ [] else []) ++ joined (map (λ k. []) kids)) (terms_level kids some full rest) ∙ joined_none kids)

schema_upper : (t : Branch Class) → Each HasKid (schema_lines t) → (rest : List TreeLine) → upper_tests (schema_lines t ++ rest) ≡ tests_of t ++ upper_tests rest
schema_upper = along_branch Class schema_lines schema-Split upper_at tests_of
    (λ class full rest. ap (λ l. upper_tests (l ++ rest)) (schema-Leaf class) ∙ term_upper class.terms (class_full class full) rest
    ∙ ap (λ l. l ++ upper_tests rest) (sym (tests-Leaf Class class)))
    (λ test kids some full rest. ap (λ u. (if u then test ∷ [] else []) ++ joined (map tests_of kids)) (schemas_level kids some full rest) ∙ tests-Split Class test kids)

-- Classes

abbrev pub held_by : Class → Held
held_by class = record { schemas = class.schemas; leaves = leaves_of class.terms; tests = tests_of class.terms }

term_held : (t : Branch ℕ) → Each HasKid (term_lines t) → (rest : List TreeLine) → held_in (term_lines t ++ rest) ≡ held_in rest
term_held = along_branch ℕ term_lines term-Split held_at (λ t. [])
    (λ n full rest. ap (λ l. held_in (l ++ rest)) (term-Leaf n))
    (λ test kids some full rest. joined_none kids)

schema_held : (t : Branch Class) → Each HasKid (schema_lines t) → (rest : List TreeLine) → held_in (schema_lines t ++ rest) ≡ map held_by (leaves_of t) ++ held_in rest
schema_held = along_branch Class schema_lines schema-Split held_at (λ t. map held_by (leaves_of t))
    (λ class full rest. ap (λ l. held_in (l ++ rest)) (schema-Leaf class)
    ∙ ap₂ (λ own l. (record { schemas = class.schemas; leaves = parts_of Leaves own; tests = parts_of Tests own } ∷ []) ++ l)
    (first_is class.terms rest) (term_held class.terms (class_full class full) rest)
    ∙ ap₂ (λ (own : List ℕ) (tests : List ℕ). record { schemas = class.schemas; leaves = own; tests = tests } ∷ held_in rest) (term_leaves class.terms) (term_tests class.terms)
    ∙ ap (λ l. map held_by l ++ held_in rest) (sym (leaves-Leaf Class class)))
    (λ test kids some full rest. sym (ap (map held_by) (leaves-Split Class test kids) ∙ map_joined held_by (map leaves_of kids)
    ∙ ap joined (map_twice leaves_of (map held_by) kids)))

-- Splits

module _ (spreads lives : List Tree) where
  abbrev cuts_whole : Branch Class → List Judging
  cuts_whole t = (whole spreads lives t).cuts

  whole-Leaf : (class : Class) → whole spreads lives (Leaf class) ≡ whole_step spreads lives (b.Leaf class)
  whole-Leaf class = ap (whole spreads lives) (sym (rolls-Leaf class)) ∙ fold-roll-Branch Class Whole (whole_step spreads lives) (b.Leaf class)

  whole-Split : (test : ℕ) (kids : List (Branch Class)) → whole spreads lives (Split test kids) ≡ whole_step spreads lives (b.Split test (map (whole spreads lives) kids))
  whole-Split test kids = ap (whole spreads lives) (sym (rolls-Split test kids)) ∙ fold-roll-Branch Class Whole (whole_step spreads lives) (b.Split test kids)

  classes_are : (t : Branch Class) → (whole spreads lives t).classes ≡ leaves_of t
  classes_are = branch_induct Class (λ t. (whole spreads lives t).classes ≡ leaves_of t)
      (λ class. ap (λ (w : Whole). w.classes) (whole-Leaf class) ∙ sym (leaves-Leaf Class class))
      (λ test kids have. ap (λ (w : Whole). w.classes) (whole-Split test kids)
      ∙ ap joined (map_twice (whole spreads lives) (λ (w : Whole). w.classes) kids ∙ map_same (λ k. (whole spreads lives k).classes) leaves_of kids have)
      ∙ sym (leaves-Split Class test kids))

  cuts_whole-Split : (test : ℕ) (kids : List (Branch Class))
      → of_schema_cut spreads (record { test = test; kids = map leaves_of kids }) ∷ joined (map cuts_whole kids) ≡ cuts_whole (Split test kids)
  cuts_whole-Split test kids = sym (ap (λ (w : Whole). w.cuts) (whole-Split test kids)
      ∙ ap₂ (λ (ks : List (List Class)) (js : List (List Judging)). of_schema_cut spreads (record { test = test; kids = ks }) ∷ joined js)
      (map_twice (whole spreads lives) (λ (w : Whole). w.classes) kids ∙ map_same (λ k. (whole spreads lives k).classes) leaves_of kids (every kids))
      (map_twice (whole spreads lives) (λ (w : Whole). w.cuts) kids))
    where
      every : (ks : List (Branch Class)) → Each (λ k. (whole spreads lives k).classes ≡ leaves_of k) ks
      every [] = tt
      every (k ∷ ks) = (classes_are k, every ks)

  abbrev of_numbers : ℕ → List (List ℕ) → Judging
  of_numbers test ks = record { rule = r.V8; terms = spreads; cut = record { test = test; kids = ks } }

  abbrev term_cuts : Branch ℕ → List Judging
  term_cuts t = map (of_term_cut lives) (cuts_of t)

  every_leaf : (kids : List (Branch ℕ)) → Each (λ k. parts_of Leaves (term_lines k) ≡ leaves_of k) kids
  every_leaf [] = tt
  every_leaf (k ∷ kids) = (term_leaves k, every_leaf kids)

  every_schema : (kids : List (Branch Class)) → Each (λ k. parts_of Schemas (schema_lines k) ≡ schemas_in (leaves_of k)) kids
  every_schema [] = tt
  every_schema (k ∷ kids) = (schema_numbers k, every_schema kids)

  term_judged : (t : Branch ℕ) → Each HasKid (term_lines t) → (rest : List TreeLine) → judgings spreads lives (term_lines t ++ rest) ≡ term_cuts t ++ judgings spreads lives rest
  term_judged = along_branch ℕ term_lines term-Split (judging_at spreads lives) term_cuts
      (λ n full rest. ap (λ l. judgings spreads lives (l ++ rest)) (term-Leaf n) ∙ ap (λ l. map (of_term_cut lives) l ++ judgings spreads lives rest) (sym (cuts-Leaf ℕ n)))
      (λ test kids some full rest.
      ap (λ u. (judging spreads lives test (length kids) (joined (map term_lines kids) ++ rest) u ∷ []) ++ joined (map term_cuts kids)) (terms_level kids some full rest)
      ∙ ap (λ ks. of_term_cut lives (record { test = test; kids = ks }) ∷ joined (map term_cuts kids))
      (kids_are ℕ term_lines term_whole Leaves kids rest ∙ map_same (λ k. parts_of Leaves (term_lines k)) leaves_of kids (every_leaf kids))
      ∙ ap (λ l. of_term_cut lives (root_cut test kids) ∷ l) (sym (map_joined (of_term_cut lives) (map cuts_of kids) ∙ ap joined (map_twice cuts_of (map (of_term_cut lives)) kids)))
      ∙ ap (map (of_term_cut lives)) (sym (cuts-Split ℕ test kids)))

  schema_judged : (t : Branch Class) → Each HasKid (schema_lines t) → (rest : List TreeLine)
      → judgings spreads lives (schema_lines t ++ rest) ≡ cuts_whole t ++ judgings spreads lives rest
  schema_judged = along_branch Class schema_lines schema-Split (judging_at spreads lives) cuts_whole
      (λ class full rest. ap (λ l. judgings spreads lives (l ++ rest)) (schema-Leaf class) ∙ term_judged class.terms (class_full class full) rest
      ∙ ap (λ l. l ++ judgings spreads lives rest) (sym (ap (λ (w : Whole). w.cuts) (whole-Leaf class))))
      (λ test kids some full rest.
      ap (λ u. (judging spreads lives test (length kids) (joined (map schema_lines kids) ++ rest) u ∷ []) ++ joined (map cuts_whole kids)) (schemas_level kids some full rest)
      ∙ ap (λ ks. of_numbers test ks ∷ joined (map cuts_whole kids))
      (kids_are Class schema_lines schema_whole Schemas kids rest ∙ map_same (λ k. parts_of Schemas (schema_lines k)) (λ k. schemas_in (leaves_of k)) kids (every_schema kids)
      ∙ sym (map_twice leaves_of schemas_in kids))
      ∙ cuts_whole-Split test kids)

-- A tree's own lines

own : {A : Type 0} (F : List TreeLine → List A) (xs : List TreeLine) (ys : List A) → F (xs ++ []) ≡ ys ++ F [] → F [] ≡ [] → F xs ≡ ys
own F xs ys e none = ap F (sym (append-nil xs)) ∙ e ∙ ap (λ l. ys ++ l) none ∙ append-nil ys

pub upper_are : (t : Branch Class) → Each HasKid (schema_lines t) → upper_tests (schema_lines t) ≡ tests_of t
upper_are t full = own upper_tests (schema_lines t) (tests_of t) (schema_upper t full []) refl

pub held_are : (t : Branch Class) → Each HasKid (schema_lines t) → held_in (schema_lines t) ≡ map held_by (leaves_of t)
held_are t full = own held_in (schema_lines t) (map held_by (leaves_of t)) (schema_held t full []) refl

pub judged_are : (spreads lives : List Tree) (t : Branch Class) → Each HasKid (schema_lines t) → judgings spreads lives (schema_lines t) ≡ (whole spreads lives t).cuts
judged_are spreads lives t full = own (judgings spreads lives) (schema_lines t) (whole spreads lives t).cuts (schema_judged spreads lives t full []) refl

parts_append : (part : Part) (xs ys : List TreeLine) → parts_of part (xs ++ ys) ≡ parts_of part xs ++ parts_of part ys
parts_append part xs ys = ap joined (map_parts (part_of part) xs ys) ∙ joined_parts (map (part_of part) xs) (map (part_of part) ys)

-- the tests of all lines are those above the classes and those below them
module _ (P : ℕ → Type 0) where
  abbrev BelowClass : Class → Type 0
  BelowClass class = Each P (tests_of class.terms)

  abbrev Tested : Branch Class → Type 0
  Tested t = Each P (tests_of t) → Each BelowClass (leaves_of t) → Each P (parts_of Tests (schema_lines t))

  kids_tested : (kids : List (Branch Class)) → Each Tested kids → Each P (joined (map tests_of kids)) → Each BelowClass (joined (map leaves_of kids))
      → Each P (parts_of Tests (joined (map schema_lines kids)))
  kids_tested [] have tests below = tt
  kids_tested (k ∷ kids) have tests below =
      subst (Each P) (sym (parts_append Tests (schema_lines k) (joined (map schema_lines kids))))
      (each_both P (parts_of Tests (schema_lines k)) (parts_of Tests (joined (map schema_lines kids)))
      (have.0 (each_left P (tests_of k) (joined (map tests_of kids)) tests) (each_left BelowClass (leaves_of k) (joined (map leaves_of kids)) below))
      (kids_tested kids have.1 (each_right P (tests_of k) (joined (map tests_of kids)) tests) (each_right BelowClass (leaves_of k) (joined (map leaves_of kids)) below)))

  pub schema_tests : (t : Branch Class) → Tested t
  schema_tests = branch_induct Class Tested
      (λ class tests below. subst (Each P) (sym (ap (parts_of Tests) (schema-Leaf class) ∙ term_tests class.terms)) (subst (Each BelowClass) (leaves-Leaf Class class) below).0)
      (λ test kids have tests below.
      let own = subst (Each P) (sym (tests-Split Class test kids)) tests in
      subst (Each P) (sym (ap (parts_of Tests) (schema-Split test kids)))
      (own.0, kids_tested kids have own.1 (subst (Each BelowClass) (leaves-Split Class test kids) below)))
