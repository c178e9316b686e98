-- The lines of sorts, constructors and functions of a signature show no fault.
use Rattle.std.proofs.Common.{◌≡◌, ◌≢◌, ℕ, zero, suc, ◌+◌, ◌-◌, ◌<◌, ◌≤◌, ◌^◌, List, [], ◌∷◌, ◌++◌, ◌⊎◌, inl, inr, map, length, Bool, true, false, true≢false, not, ◌&&◌, ◌||◌, ◌==◌, nat_lt, nat_le, le-leb, is_some, Option, Some, None, slice_get, slice_index_or, rules, arith, append_assoc, refl, sym, ap, ap₂, ◌∙◌, subst}
use Rattle.std.specs.List.{list_all}
use Rattle.std.proofs.lemmas.Option.{slice_get_within, slice_get-get_or}
use Rattle.law_sig.specs.Lists.{In, Each}
use Rattle.law_sig.specs.Lists.In.{here, there}
use Rattle.law_sig.specs.Trees.{same_sort}
use Rattle.law_sig.specs.Signature.{symbol_at, args_of, constructors, constructors_from, vars_at, width_at, weight_at}
use Rattle.law_sig.specs.WellFormed.{IsBetween, IsDeclared, IsBody, IsCase, AreCases, FitsPlace, IsWellFormed}
use Rattle.law_sig.specs.declared.tree.SortId.{SortId}
use Rattle.law_sig.specs.declared.tree.SymId.{SymId}
use Rattle.law_sig.specs.declared.tree.Body.{Body}
use Rattle.law_sig.specs.declared.parts.Fun.{Fun}
use Rattle.law_sig.specs.declared.parts.Sym.{Sym}
use Rattle.law_sig.specs.declared.parts.Sym.TheVariants as sym
use Rattle.law_sig.specs.declared.parts.SigParts.{SigParts}
use Rattle.law_laws.proofs.BodyFacts.{some_is, none_is}
use Rattle.law_laws.proofs.ListFacts.{in_left, in_right, in_none, in_split, in_map}
use Rattle.law_laws.proofs.Sorts.{same_sort_itself}
use Rattle.law_lines.specs.declared.raw.RawLine.{RawLine}
use Rattle.law_typing.specs.Names.{number_of, is_below, stands_before}
use Rattle.law_typing.specs.Naming.{sort_name, symbol_name, named_body}
use Rattle.law_typing.specs.Declarations.{has_value}
use Rattle.law_typing.specs.TermFaults.{fault_if, term_fault, wanted_of}
use Rattle.law_typing.specs.LineFaults.{after_sort, after_symbol, after_match, after_case, owner, own_symbol, sort_given, body_fault, case_names, is_case, has_case, match_faults, sort_at, wrong_case, matched, symbol_case_faults, case_faults, out_of, sort_faults, unknown_sort, unknown_sorts, name_faults, con_faults, fun_faults, line_fault, seen_after}
use Rattle.law_typing.specs.Typed.{Version, arg_names, functions_from}
use Rattle.law_typing.specs.Typed.Version.{first, second, third}
use Rattle.law_typing.specs.declared.errors.TypeKind.TheVariants as kind
use Rattle.law_typing.specs.declared.seen.Seen.{Seen}
use Rattle.law_typing.specs.declared.whole.Whole.{Whole}
use Rattle.law_typing.proofs.NumberFacts.{stands_at}
use Rattle.law_typing.proofs.TreeOfFacts.{number_again}
use Rattle.law_typing.proofs.SideFacts.{Declares, headed, in_text}
use Rattle.law_faultless.proofs.BodyComplete.{both_none, no_fault, body_passes}
use Rattle.law_typing.proofs.Laid.{ConRow, CaseRow, Rules, FunRow, con_line, sort_line, fun_line, cons_then, sorts_then, cases_then, rules_then, funs_then}
use Rattle.law_typing.proofs.Laid.Rules.{single, matching}
use Rattle.law_typing.proofs.Passed.{NoFaults, cons_seen, sorts_seen, cases_seen, rules_seen, funs_seen}
use Rattle.law_typing.proofs.Blocks.{sort_no, nums}
use Rattle.law_typing.proofs.Counted.{in_numbered, no_longer, cons_headed, cons_of}
use Rattle.law_typing.proofs.RulesSound.{scope_at, formed_at, con_names, names_are}
use Rattle.law_typing.proofs.Fresh.{rules_symbols}
use Rattle.law_typing.proofs.SymbolsSound.{no_cases}
use Rattle.law_faultless.proofs.HeightComplete.{low_has_value, value_low}
use Rattle.law_faultless.proofs.LaidBack.{con_row, sort_row, CaseOf, CasesOf, FunOf, RulesOf, RowsOf, names_apart}

-- Ranges

pub out_none : (low high n : ℕ) → IsBetween low high n → out_of low high n ≡ None
out_none low high n h = no_fault _ kind.SettingRange (ap not (ap₂ ◌&&◌ (le-leb low n h.0) (le-leb n high h.1)))

-- these are numbered from k on
abbrev pub Counts : ℕ → List SymId → Type 0
Counts k [] = Unit {0}
Counts k (c ∷ cs) = (c.0 ≡ k) × Counts (k + 1) cs

each_at_or : (P : ℕ → Type 0) (d : ℕ) (xs : List ℕ) (k : ℕ) → Each P xs → P d → P (slice_index_or xs k d)
each_at_or P d [] k h e = e
each_at_or P d (x ∷ xs) zero h e = h.0
each_at_or P d (x ∷ xs) (suc k) h e = each_at_or P d xs k h.1 e

pub not_numbered : (before : List (List ℕ)) (n : List ℕ) → ((k : ℕ) → slice_get before k ≡ Some n → ⊥) → is_some (number_of before n) ≡ false
not_numbered before n h = by (number_of before n) refl
  where
    by : (o : Option ℕ) → number_of before n ≡ o → is_some (number_of before n) ≡ false
    by None e = ap is_some e
    by (Some k) e = absurd (h k (stands_at before n k e))

module _ (text : Whole) (parts : SigParts) (formed : IsWellFormed parts) (declares : Declares text parts) where
  number_is : (f : ℕ) → f < length parts.symbols → number_of text.names (symbol_name parts (record { 0 = f })) ≡ Some f
  number_is f l =
      let within : f < length parts.symbol_names = subst (λ n. f < n) (sym formed.one_name_each) l in
      ap (λ names. number_of names (symbol_name parts (record { 0 = f }))) declares.names ∙ number_again parts.symbol_names f formed.symbol_names.distinct within

  sort_number : (s : SortId) → IsDeclared parts s → number_of text.sorts (sort_name parts s) ≡ Some s.0
  sort_number s declared =
      let within : s.0 < length parts.sort_names = search (rules, declared) in
      ap (λ names. number_of names (sort_name parts s)) declares.sorts ∙ number_again parts.sort_names s.0 formed.sort_names.distinct within

  known_sort : (s : SortId) → IsDeclared parts s → unknown_sort text (sort_name parts s) ≡ None
  known_sort s declared = no_fault _ kind.UnknownSort (ap (λ o. not (is_some o)) (sort_number s declared))

  known_sorts : (ss : List SortId) → Each (IsDeclared parts) ss → unknown_sorts text (map (sort_name parts) ss) ≡ None
  known_sorts [] h = refl
  known_sorts (s ∷ ss) h = both_none (unknown_sort text (sort_name parts s)) (unknown_sorts text (map (sort_name parts) ss)) (known_sort s h.0) (known_sorts ss h.1)

  known_args : (f : SymId) (symbol : Sym) → symbol_at parts f ≡ Some symbol → unknown_sorts text (arg_names parts f) ≡ None
  known_args f symbol e = ap (λ o. unknown_sorts text (map (sort_name parts) (Rattle.std.proofs.Common.unwrap_or (Rattle.std.proofs.Common.option_map args_of o) []))) e
      ∙ known_sorts (args_of symbol) (formed.symbols f symbol e).args_declared

  name_fine : (seen : Seen) (f : SymId) (symbol : Sym) → symbol_at parts f ≡ Some symbol → f.0 ≡ seen.symbols → name_faults text seen (symbol_name parts f) ≡ None
  name_fine seen f symbol e k =
      let within : f.0 < length parts.symbols = slice_get_within parts.symbols f.0 symbol e in
      let few = formed.symbols_range in
      let below : seen.symbols < 4294967295 = omega arith in
      let low : nat_le 4294967295 seen.symbols ≡ false = search (rules, below) in
      both_none (fault_if (nat_le 4294967295 seen.symbols) kind.SettingRange) _ (no_fault _ kind.SettingRange low)
      (no_fault _ kind.NameTwice (ap (is_below seen.symbols) (number_is f.0 within) ∙ not_less f.0 seen.symbols k))
    where
      not_less : (a c : ℕ) → a ≡ c → nat_lt a c ≡ false
      not_less a c e = let l : c ≤ a = omega arith in search (rules, l)

  weight_range : (f : SymId) → IsBetween 1 4 (weight_at parts f)
  weight_range f = each_at_or (IsBetween 1 4) 1 parts.settings.weights f.0 formed.settings.weights.in_range (omega arith, omega arith)

  con_fine : (v : Version) (seen : Seen) (rest : List RawLine) (c : SymId) (symbol : Sym) → symbol_at parts c ≡ Some symbol → c.0 ≡ seen.symbols
      → line_fault text seen rest (con_line v (con_row parts c)) ≡ None
  con_fine (first vars width) seen rest c symbol e k = both_none (name_faults text seen (symbol_name parts c)) _ (name_fine seen c symbol e k) (known_args c symbol e)
  con_fine second seen rest c symbol e k = both_none (name_faults text seen (symbol_name parts c)) _ (name_fine seen c symbol e k) (known_args c symbol e)
  con_fine third seen rest c symbol e k =
      both_none (con_faults text seen (symbol_name parts c) (arg_names parts c)) _
      (both_none (name_faults text seen (symbol_name parts c)) _ (name_fine seen c symbol e k) (known_args c symbol e)) (out_none 1 4 (weight_at parts c) (weight_range c))

  seen_con : (v : Version) (seen : Seen) (c : SymId) → seen_after seen (con_line v (con_row parts c)) ≡ after_symbol seen
  seen_con (first vars width) seen c = refl
  seen_con second seen c = refl
  seen_con third seen c = refl

  cons_fine : (v : Version) (seen : Seen) (cs more : List SymId) (rest : List RawLine) → ((c : SymId) → In c cs → (symbol : Sym) × (symbol_at parts c ≡ Some symbol))
      → Counts seen.symbols (cs ++ more) → NoFaults text (cons_seen seen (map (con_row parts) cs)) rest → NoFaults text seen (cons_then v (map (con_row parts) cs) rest)
  cons_fine v seen [] more rest has counts h = h
  cons_fine v seen (c ∷ cs) more rest has counts h =
      let s = has c here in (
        con_fine v seen (cons_then v (map (con_row parts) cs) rest) c s.0 s.1 counts.0,
        subst (λ z. NoFaults text z (cons_then v (map (con_row parts) cs) rest)) (sym (seen_con v seen c))
            (cons_fine v (after_symbol seen) cs more rest (λ x at. has x (there at)) counts.1 h),
      )

  pub counts_after : (seen : Seen) (cs more : List SymId) → Counts seen.symbols (cs ++ more) → Counts (cons_seen seen (map (con_row parts) cs)).symbols more
  counts_after seen [] more h = h
  counts_after seen (c ∷ cs) more h = counts_after (after_symbol seen) cs more h.1

  con_has : (sort : SortId) (c : SymId) → In c (constructors parts sort) → (symbol : Sym) × (symbol_at parts c ≡ Some symbol)
  con_has sort c at =
      let i = cons_of 0 parts.symbols sort c at in
      let plain : 0 + i.place ≡ i.place = omega arith in
      (sym.Con i.con, ap (λ (z : SymId). slice_get parts.symbols z.0) i.is ∙ ap (slice_get parts.symbols) plain ∙ i.at)

  has_its_value : (s : SortId) → IsDeclared parts s → has_value text s ≡ true
  has_its_value s declared =
      let v = formed.every_sort_has_a_value s declared in
      let l = value_low text parts declares v.0 s v.1.made v.1.sorted in
      let within : s.0 < length parts.sort_names = search (rules, declared) in
      low_has_value text l.0 s (subst (λ z. s.0 < length z) (sym declares.sorts) within) l.1

  sort_base : (seen : Seen) (m : ℕ) → IsDeclared parts (record { 0 = m }) → m ≡ seen.sorts → sort_faults text seen (sort_name parts (record { 0 = m })) ≡ None
  sort_base seen m declared k =
      let within : m < length parts.sort_names = search (rules, declared) in
      let few = formed.sorts_range.1 in
      let below : seen.sorts < 64 = omega arith in
      let low : nat_le 64 seen.sorts ≡ false = search (rules, below) in
      both_none (fault_if (nat_le 64 seen.sorts) kind.SettingRange) _ (no_fault _ kind.SettingRange low)
      (both_none (fault_if (stands_before text.sorts seen.sorts (sort_name parts (record { 0 = m }))) kind.NameTwice) _
      (no_fault _ kind.NameTwice (ap (is_below seen.sorts) (sort_number (record { 0 = m }) declared) ∙ not_less m seen.sorts k))
      (no_fault _ kind.EmptySort (ap (λ n. not (has_value text (record { 0 = n }))) (sym k) ∙ ap not (has_its_value (record { 0 = m }) declared))))
    where
      not_less : (a c : ℕ) → a ≡ c → nat_lt a c ≡ false
      not_less a c e = let l : c ≤ a = omega arith in search (rules, l)

  vars_range : (s : SortId) → IsBetween 0 8 (vars_at parts s)
  vars_range s = each_at_or (IsBetween 0 8) 0 parts.settings.vars s.0 formed.settings.vars.in_range (omega arith, omega arith)

  width_range : (s : SortId) → IsBetween 1 16 (width_at parts s)
  width_range s = each_at_or (IsBetween 1 16) 1 parts.settings.width s.0 formed.settings.width.in_range (omega arith, omega arith)

  sort_fine : (v : Version) (seen : Seen) (rest : List RawLine) (m : ℕ) → IsDeclared parts (record { 0 = m }) → m ≡ seen.sorts
      → line_fault text seen rest (sort_line v (sort_row parts (record { 0 = m }))) ≡ None
  sort_fine (first vars width) seen rest m declared k = sort_base seen m declared k
  sort_fine second seen rest m declared k = both_none (sort_faults text seen (sort_name parts (record { 0 = m }))) _ (sort_base seen m declared k)
      (both_none (out_of 0 8 (vars_at parts (record { 0 = m }))) _ (out_none 0 8 _ (vars_range (record { 0 = m }))) (out_none 1 16 _ (width_range (record { 0 = m }))))
  sort_fine third seen rest m declared k = both_none (sort_faults text seen (sort_name parts (record { 0 = m }))) _ (sort_base seen m declared k)
      (both_none (out_of 0 8 (vars_at parts (record { 0 = m }))) _ (out_none 0 8 _ (vars_range (record { 0 = m }))) (out_none 1 16 _ (width_range (record { 0 = m }))))

  seen_sort : (v : Version) (seen : Seen) (s : SortId) → seen_after seen (sort_line v (sort_row parts s)) ≡ after_sort seen
  seen_sort (first vars width) seen s = refl
  seen_sort second seen s = refl
  seen_sort third seen s = refl

  cons_sorts : (seen : Seen) (cs : List ConRow) → (cons_seen seen cs).sorts ≡ seen.sorts
  cons_sorts seen [] = refl
  cons_sorts seen (c ∷ cs) = cons_sorts (after_symbol seen) cs

  pub sorts_fine : (v : Version) (seen : Seen) (m : ℕ) (ns : List (List ℕ)) (more : List SymId) (rest : List RawLine) → m ≡ seen.sorts → m + length ns ≤ length parts.sort_names
      → Counts seen.symbols (Rattle.law_sig.specs.Trees.joined (map (constructors parts) (nums sort_no m ns)) ++ more)
      → NoFaults text (sorts_seen seen (map (sort_row parts) (nums sort_no m ns))) rest → NoFaults text seen (sorts_then v (map (sort_row parts) (nums sort_no m ns)) rest)
  sorts_fine v seen m [] more rest k l counts h = h
  sorts_fine v seen m (n ∷ ns) more rest k l counts h =
      let s : SortId = record { 0 = m } in
      let within : m < length parts.sort_names = omega arith in
      let declared : IsDeclared parts s = search (rules, within) in
      let cs = constructors parts s in
      let others = Rattle.law_sig.specs.Trees.joined (map (constructors parts) (nums sort_no (suc m) ns)) in
      let split : Counts seen.symbols (cs ++ (others ++ more)) = subst (Counts seen.symbols) (append_assoc cs others more) counts in
      let after = cons_seen (after_sort seen) (map (con_row parts) cs) in
      let behind = sorts_then v (map (sort_row parts) (nums sort_no (suc m) ns)) rest in
      let next : suc m ≡ after.sorts = more_sorts m seen.sorts k ∙ sym (cons_sorts (after_sort seen) (map (con_row parts) cs)) in
      let less : suc m + length ns ≤ length parts.sort_names = omega arith in (
        sort_fine v seen (cons_then v (map (con_row parts) cs) behind) m declared k,
        subst (λ z. NoFaults text z (cons_then v (map (con_row parts) cs) behind)) (sym (seen_sort v seen s))
            (cons_fine v (after_sort seen) cs (others ++ more) behind (con_has s) split
            (sorts_fine v after (suc m) ns more rest next less (counts_after (after_sort seen) cs (others ++ more) split) h)),
      )
    where
      more_sorts : (a c : ℕ) → a ≡ c → suc a ≡ c + 1
      more_sorts a c e = omega arith

  pub counts_sorts : (seen : Seen) (m : ℕ) (ns : List (List ℕ)) (more : List SymId)
      → Counts seen.symbols (Rattle.law_sig.specs.Trees.joined (map (constructors parts) (nums sort_no m ns)) ++ more)
      → Counts (sorts_seen seen (map (sort_row parts) (nums sort_no m ns))).symbols more
  counts_sorts seen m [] more h = h
  counts_sorts seen m (n ∷ ns) more h =
      let cs = constructors parts (record { 0 = m }) in
      let others = Rattle.law_sig.specs.Trees.joined (map (constructors parts) (nums sort_no (suc m) ns)) in
      counts_sorts (cons_seen (after_sort seen) (map (con_row parts) cs)) (suc m) ns more
      (counts_after (after_sort seen) cs (others ++ more) (subst (Counts seen.symbols) (append_assoc cs others more) h))

  -- Functions

  -- the function at work
  body_none : (seen : Seen) (k : ℕ) (fun : Fun) (place : Option ℕ) (fields : List SortId) (body : Body) → symbol_at parts (record { 0 = k }) ≡ Some (sym.Fun fun) → owner seen ≡ k
      → seen.place ≡ place → IsBody parts (formed_at k place fields fun.args) fun.result body → body_fault text seen fields (named_body parts body) ≡ None
  body_none seen k fun place fields body declared own at is =
      let symbol : own_symbol text seen ≡ Some (headed (sym.Fun fun)) = ap (slice_get text.symbols) own ∙ in_text text parts declares k (sym.Fun fun) declared in
      ap₂ (λ o p. term_fault text (record { standing = Rattle.law_typing.specs.declared.scope.Standing.TheVariants.Body; owner = o; place = p; fields = fields; params = wanted_of (own_symbol text seen) })
      (sort_given (own_symbol text seen)) (named_body parts body)) own at
      ∙ ap (λ q. term_fault text (scope_at k place fields (wanted_of q)) (sort_given q) (named_body parts body)) symbol
      ∙ body_passes text parts declares formed k fun declared place fields body (Some fun.result) fun.result is.sorted (same fun.result)
    where
      same : (s : SortId) → Rattle.law_typing.specs.TermFaults.mismatch (Some s) s ≡ None
      same s = ap (λ c. fault_if (not c) (kind.SortMismatch s s)) (same_sort_itself s)

  case_at : (P : List SortId → Body → Type 0) (cons : List SymId) (bodies : List Body) → AreCases parts P cons bodies → (i : ℕ) (con : SymId) (body : Body)
      → slice_get cons i ≡ Some con → slice_get bodies i ≡ Some body → IsCase P (symbol_at parts con) body
  case_at P [] bodies h i con body e g = none_is con e
  case_at P (c ∷ cons) [] h i con body e g = absurd h
  case_at P (c ∷ cons) (b ∷ bodies) h zero con body e g = subst (λ z. IsCase P (symbol_at parts z) body) (some_is c con e) (subst (IsCase P (symbol_at parts c)) (some_is b body g) h.0)
  case_at P (c ∷ cons) (b ∷ bodies) h (suc i) con body e g = case_at P cons bodies h.1 i con body e g

  in_at : {A : Type 0} (xs : List A) (i : ℕ) (x : A) → slice_get xs i ≡ Some x → In x xs
  in_at [] i x e = none_is x e
  in_at (y ∷ xs) zero x e = subst (λ z. In z (y ∷ xs)) (some_is y x e) here
  in_at (y ∷ xs) (suc i) x e = there (in_at xs i x e)

  module _ (k : ℕ) (fun : Fun) (place : ℕ) (sort : SortId) (cs : List CaseRow) (declared : symbol_at parts (record { 0 = k }) ≡ Some (sym.Fun fun))
      (at_place : slice_get fun.args place ≡ Some sort) (of : CasesOf parts (constructors parts sort) fun.cases cs)
      (are : AreCases parts (λ fields body. IsBody parts (formed_at k (Some place) fields fun.args) fun.result body) (constructors parts sort) fun.cases)
    where
      -- no name stands twice: else the other names would be too few
      no_twice : (before after : List (List ℕ)) (n : List ℕ) → con_names cs ≡ before ++ n ∷ after → is_some (number_of before n) ≡ false
      no_twice before after n e = not_numbered before n twice
        where
          less : (xs ys : List (List ℕ)) → length (xs ++ n ∷ ys) ≡ suc (length (xs ++ ys))
          less [] ys = refl
          less (x ∷ xs) ys = ap suc (less xs ys)

          still : (m : List ℕ) → In m (before ++ n ∷ after) → (j : ℕ) → slice_get before j ≡ Some n → In m (before ++ after)
          still m at j g = by (in_split before (n ∷ after) at)
            where
              rest : (m ≡ n) ⊎ In m after → In m (before ++ after)
              rest (inl q) = subst (λ z. In z (before ++ after)) (sym q) (in_left after (in_at before j n g))
              rest (inr q) = in_right before q

              by : In m before ⊎ In m (n ∷ after) → In m (before ++ after)
              by (inl q) = in_left after q
              by (inr q) = rest (Rattle.law_laws.proofs.ListFacts.in_rest q)

          from_map : (xs : List SymId) (name : List ℕ) → In name (map (symbol_name parts) xs) → (c : SymId) × In c xs × (name ≡ symbol_name parts c)
          from_map [] name at = in_none at
          from_map (x ∷ xs) name at = pick (Rattle.law_laws.proofs.ListFacts.in_rest at) (from_map xs name)
            where
              pick : (name ≡ symbol_name parts x) ⊎ In name (map (symbol_name parts) xs) → (In name (map (symbol_name parts) xs) → (c : SymId) × In c xs × (name ≡ symbol_name parts c))
                  → (c : SymId) × In c (x ∷ xs) × (name ≡ symbol_name parts c)
              pick (inl q) r = (x, here, q)
              pick (inr q) r = let f = r q in (f.0, there f.1, f.2)

          twice : (j : ℕ) → slice_get before j ≡ Some n → ⊥
          twice j g =
              let l : length (map (symbol_name parts) (constructors parts sort)) ≤ length (before ++ after) =
              no_longer (map (symbol_name parts) (constructors parts sort)) (before ++ after) (names_apart parts formed sort)
              (λ name at. let c = from_map (constructors parts sort) name at in
              still name (subst (λ z. In name z) e (subst (λ z. In z (con_names cs)) (sym c.2) (of.all c.0 c.1))) j g) in
              let a : length (con_names cs) ≡ suc (length (before ++ after)) = ap length e ∙ less before after in
              let b : length (con_names cs) ≡ length cs = Rattle.std.proofs.lemmas.List.length-map cs (λ (c : CaseRow). c.con) in
              let d : length (map (symbol_name parts) (constructors parts sort)) ≡ length (constructors parts sort) = Rattle.std.proofs.lemmas.List.length-map (constructors parts sort) (symbol_name parts) in
              let q = of.count in omega arith

      case_fine : (seen : Seen) (c : CaseRow) → owner seen ≡ k → seen.place ≡ Some place → is_some (number_of seen.cases c.con) ≡ false
          → CaseOf parts (constructors parts sort) fun.cases c → case_faults text seen c.con c.body (number_of text.names c.con) ≡ None
      case_fine seen c own at new o =
          let i = cons_of 0 parts.symbols sort o.con (in_at (constructors parts sort) o.place o.con o.con_at) in
          let plain : 0 + i.place ≡ i.place = omega arith in
          let con_at : symbol_at parts o.con ≡ Some (sym.Con i.con) = ap (λ (z : SymId). slice_get parts.symbols z.0) i.is ∙ ap (slice_get parts.symbols) plain ∙ i.at in
          let within : o.con.0 < length parts.symbols = slice_get_within parts.symbols o.con.0 (sym.Con i.con) con_at in
          let number : number_of text.names c.con ≡ Some o.con.0 = ap (number_of text.names) o.con_is ∙ number_is o.con.0 within in
          let found : slice_get text.symbols o.con.0 ≡ Some (sym.Con i.con) = in_text text parts declares o.con.0 (sym.Con i.con) con_at in
          let symbol : own_symbol text seen ≡ Some (headed (sym.Fun fun)) = ap (slice_get text.symbols) own ∙ in_text text parts declares k (sym.Fun fun) declared in
          let matched_is : matched text seen ≡ Some sort = ap₂ (λ p q. sort_at p (wanted_of q)) at symbol ∙ at_place in
          let body : IsBody parts (formed_at k (Some place) i.con.args fun.args) fun.result o.body =
          subst (λ z. IsCase (λ fields body. IsBody parts (formed_at k (Some place) fields fun.args) fun.result body) z o.body) con_at
          (case_at (λ fields body. IsBody parts (formed_at k (Some place) fields fun.args) fun.result body) (constructors parts sort) fun.cases are o.place o.con o.body o.con_at o.body_at) in
          ap (case_faults text seen c.con c.body) number ∙ ap (symbol_case_faults text seen c.con c.body o.con.0) found
          ∙ both_none (wrong_case (matched text seen) (sym.Con i.con)) _
          (ap (λ z. wrong_case z (sym.Con i.con)) matched_is ∙ no_fault _ (kind.SortMismatch sort i.con.sort) (ap not (turned i.con.sort sort i.of)))
          (both_none (fault_if (is_some (number_of seen.cases c.con)) kind.CaseTwice) _ (no_fault _ kind.CaseTwice new)
          (ap (body_fault text seen i.con.args) o.body_is ∙ body_none seen k fun (Some place) i.con.args o.body declared own at body))
        where
          turned : (a c : SortId) → same_sort a c ≡ true → same_sort c a ≡ true
          turned a c e = let h : a.0 ≡ c.0 = Rattle.std.proofs.Common.eqb-true a.0 c.0 e in Rattle.std.proofs.Common.eq-eqb c.0 a.0 (sym h)

      cases_fine : (seen : Seen) (before : List (List ℕ)) (rows : List CaseRow) (rest : List RawLine) → con_names cs ≡ before ++ con_names rows → seen.cases ≡ before → owner seen ≡ k
          → seen.place ≡ Some place → Each (CaseOf parts (constructors parts sort) fun.cases) rows → NoFaults text (cases_seen seen rows) rest → NoFaults text seen (cases_then rows rest)
      cases_fine seen before [] rest e b own at each h = h
      cases_fine seen before (c ∷ rows) rest e b own at each h = (
        case_fine seen c own at (ap (λ z. is_some (number_of z c.con)) b ∙ no_twice before (con_names rows) c.con e) each.0,
        cases_fine (after_case c.con seen) (before ++ c.con ∷ []) rows rest (e ∙ sym (append_assoc before (c.con ∷ []) (con_names rows))) (ap (λ z. z ++ c.con ∷ []) b) own at each.1 h,
      )

      complete : (rest : List RawLine) → case_names rest ≡ [] → (xs : List SymId) → ((c : SymId) → In c xs → In c (constructors parts sort))
          → list_all (has_case text (case_names (cases_then cs rest))) xs ≡ true
      complete rest none [] h = refl
      complete rest none (c ∷ xs) h =
          let s = con_has sort c (h c here) in
          let within : c.0 < length parts.symbol_names = subst (λ n. c.0 < n) (sym formed.one_name_each) (slice_get_within parts.symbols c.0 s.0 s.1) in
          let named : slice_get text.names c.0 ≡ Some (symbol_name parts c) = ap (λ l. slice_get l c.0) declares.names ∙ slice_get-get_or parts.symbol_names c.0 [] within in
          ap₂ ◌&&◌ (ap₂ is_case (names_are cs rest none) named ∙ in_numbered 0 (of.all c (h c here))) (complete rest none xs (λ x at. h x (there at)))

      match_fine : (seen : Seen) (rest : List RawLine) → case_names rest ≡ [] → owner seen ≡ k
          → match_faults text (case_names (cases_then cs rest)) (slice_get (wanted_of (own_symbol text seen)) place) ≡ None
      match_fine seen rest none own =
          let symbol : own_symbol text seen ≡ Some (headed (sym.Fun fun)) = ap (slice_get text.symbols) own ∙ in_text text parts declares k (sym.Fun fun) declared in
          let cons : constructors_from 0 text.symbols sort ≡ constructors parts sort = ap (λ l. constructors_from 0 l sort) declares.symbols ∙ cons_headed 0 parts.symbols sort in
          ap (λ q. match_faults text (case_names (cases_then cs rest)) (slice_get (wanted_of q) place)) symbol
          ∙ ap (match_faults text (case_names (cases_then cs rest))) at_place
          ∙ no_fault _ kind.CaseMissing (ap not (ap (list_all (has_case text (case_names (cases_then cs rest)))) cons ∙ complete rest none (constructors parts sort) (λ c at. at)))

  rules_fine : (seen : Seen) (k : ℕ) (fun : Fun) (place : Option ℕ) (r : Rules) (rest : List RawLine) → symbol_at parts (record { 0 = k }) ≡ Some (sym.Fun fun)
      → FitsPlace parts (record { 0 = k }) fun place → RulesOf parts fun place r → owner seen ≡ k → seen.place ≡ None → case_names rest ≡ []
      → NoFaults text (rules_seen seen r) rest → NoFaults text seen (rules_then r rest)
  rules_fine seen k fun None (single t) rest declared fits of own start none h =
      let b = of.0 in
      let same : fits.0 ≡ b = one_item fits.0 b (sym fits.1 ∙ of.1) in (
        ap (body_fault text seen []) of.2 ∙ body_none seen k fun None [] b declared own start
            (subst (IsBody parts (formed_at k None [] fun.args) fun.result) same fits.2),
        h,
      )
    where
      one_item : (x y : Body) → x ∷ [] ≡ y ∷ [] → x ≡ y
      one_item x y e = cc
  rules_fine seen k fun None (matching n cs) rest declared fits of own start none h = absurd of
  rules_fine seen k fun (Some place) (single t) rest declared fits of own start none h = absurd of
  rules_fine seen k fun (Some place) (matching n cs) rest declared fits of own start none h =
      let same : fits.0 ≡ of.0 = some_is fits.0 of.0 (sym fits.1 ∙ of.2) in
      let are : AreCases parts (λ fields body. IsBody parts (formed_at k (Some place) fields fun.args) fun.result body) (constructors parts of.0) fun.cases =
      subst (λ s. AreCases parts (λ fields body. IsBody parts (formed_at k (Some place) fields fun.args) fun.result body) (constructors parts s) fun.cases) same fits.2 in (
        ap (λ m. match_faults text (case_names (cases_then cs rest)) (slice_get (wanted_of (own_symbol text seen)) m)) of.1
            ∙ match_fine k fun place of.0 cs declared of.2 of.3 are seen rest none own,
        cases_fine k fun place of.0 cs declared of.2 of.3 are (after_match n seen) [] cs rest refl refl own (ap Some of.1) of.3.each h,
      )

  fun_fine : (v : Version) (seen : Seen) (rest : List RawLine) (k : ℕ) (fun : Fun) (r : FunRow) → symbol_at parts (record { 0 = k }) ≡ Some (sym.Fun fun) → FunOf parts k fun r
      → k ≡ seen.symbols → line_fault text seen rest (fun_line v r) ≡ None
  fun_fine v seen rest k fun r declared of e = by v
    where
      base : fun_faults text seen r.name r.args r.result ≡ None
      base =
          let s = formed.symbols (record { 0 = k }) (sym.Fun fun) declared in
          both_none (name_faults text seen r.name) _ (ap (name_faults text seen) of.name ∙ name_fine seen (record { 0 = k }) (sym.Fun fun) declared e)
          (both_none (unknown_sorts text r.args) _ (ap (unknown_sorts text) of.args ∙ known_args (record { 0 = k }) (sym.Fun fun) declared)
          (ap (unknown_sort text) of.result ∙ known_sort fun.result s.result_declared))

      by : (v : Version) → line_fault text seen rest (fun_line v r) ≡ None
      by (first vars width) = base
      by second = base
      by third = both_none (fun_faults text seen r.name r.args r.result) _ base (ap (out_of 1 4) of.weight ∙ out_none 1 4 (weight_at parts (record { 0 = k })) (weight_range (record { 0 = k })))

  seen_fun : (v : Version) (seen : Seen) (r : FunRow) → seen_after seen (fun_line v r) ≡ after_symbol seen
  seen_fun (first vars width) seen r = refl
  seen_fun second seen r = refl
  seen_fun third seen r = refl

  pub funs_fine : (v : Version) (seen : Seen) (k : ℕ) (symbols : List Sym) (rows : List FunRow) (tail : List RawLine)
      → ((i : ℕ) (s : Sym) → slice_get symbols i ≡ Some s → symbol_at parts (record { 0 = k + i }) ≡ Some s) → RowsOf parts k symbols rows
      → Counts seen.symbols (functions_from k symbols) → case_names tail ≡ [] → NoFaults text (funs_seen seen rows) tail → NoFaults text seen (funs_then v rows tail)
  funs_fine v seen k [] rows tail at of counts none h =
      subst (λ z. NoFaults text seen (funs_then v z tail)) (sym of) (subst (λ z. NoFaults text (funs_seen seen z) tail) of h)
  funs_fine v seen k (sym.Con con ∷ symbols) rows tail at of counts none h =
      funs_fine v seen (suc k) symbols rows tail (λ i s e. ap (λ n. symbol_at parts (record { 0 = n })) (later i) ∙ at (suc i) s e) of counts none h
    where
      later : (i : ℕ) → suc k + i ≡ k + suc i
      later i = omega arith
  funs_fine v seen k (sym.Fun fun ∷ symbols) [] tail at of counts none h = absurd of
  funs_fine v seen k (sym.Fun fun ∷ symbols) (r ∷ rows) tail at of counts none h =
      let declared : symbol_at parts (record { 0 = k }) ≡ Some (sym.Fun fun) = ap (λ n. symbol_at parts (record { 0 = n })) plain ∙ at 0 (sym.Fun fun) refl in
      let s = formed.symbols (record { 0 = k }) (sym.Fun fun) declared in
      let own : owner (after_symbol seen) ≡ k = less_one seen.symbols counts.0 in
      let rest = funs_then v rows tail in (
        fun_fine v seen (rules_then r.rules rest) k fun r declared of.0 counts.0,
        subst (λ z. NoFaults text z (rules_then r.rules rest)) (sym (seen_fun v seen r))
            (rules_fine (after_symbol seen) k fun fun.place r.rules rest declared s.bodies of.0.rules own refl (no_cases v rows tail none)
            (funs_fine v (rules_seen (after_symbol seen) r.rules) (suc k) symbols rows tail (λ i s e. ap (λ n. symbol_at parts (record { 0 = n })) (later i) ∙ at (suc i) s e) of.1
            (subst (λ n. Counts n (functions_from (suc k) symbols)) (sym (rules_symbols (after_symbol seen) r.rules)) counts.1) none h)),
      )
    where
      plain : k ≡ k + 0
      plain = omega arith

      later : (i : ℕ) → suc k + i ≡ k + suc i
      later i = omega arith

      less_one : (n : ℕ) → k ≡ n → (n + 1) - 1 ≡ k
      less_one n e = omega arith
