-- The lines of a signature declare what the signature does.
use Rattle.std.proofs.Common.{◌≡◌, ℕ, suc, ◌+◌, ◌<◌, List, [], ◌∷◌, ◌++◌, map, length, Option, Some, None, slice_get, slice_index_or, option_map, unwrap_or, rules, arith, append_assoc, refl, sym, ap, ap₂, ◌∙◌}
use Rattle.std.proofs.lemmas.List.{map-append}
use Rattle.law_sig.specs.Lists.{In, Each}
use Rattle.law_sig.specs.Lists.In.{here, there}
use Rattle.law_sig.specs.Trees.{joined}
use Rattle.law_sig.specs.Tests.{first_of}
use Rattle.law_sig.specs.Signature.{symbol_at, args_of, constructors}
use Rattle.law_sig.specs.WellFormed.{IsDeclared, IsWellFormed}
use Rattle.law_sig.specs.declared.tree.SortId.{SortId}
use Rattle.law_sig.specs.declared.tree.SymId.{SymId}
use Rattle.law_sig.specs.declared.parts.Sym.{Sym}
use Rattle.law_sig.specs.declared.parts.Sym.TheVariants as sym
use Rattle.law_sig.specs.declared.parts.SigParts.{SigParts}
use Rattle.law_laws.proofs.BodyFacts.{some_is}
use Rattle.law_laws.proofs.Sorts.{same_sort_is}
use Rattle.law_lines.specs.declared.raw.RawLine.{RawLine}
use Rattle.law_typing.specs.Names.{number_of}
use Rattle.law_typing.specs.Naming.{sort_name, symbol_name}
use Rattle.law_typing.specs.Declarations.{sort_id}
use Rattle.law_typing.specs.Typed.{Version, arg_names, functions_from}
use Rattle.law_typing.specs.declared.whole.Whole.{Whole}
use Rattle.law_typing.proofs.TreeOfFacts.{number_again}
use Rattle.law_typing.proofs.SideFacts.{headed}
use Rattle.law_typing.proofs.TermSound.{sort_id_is}
use Rattle.law_typing.proofs.Laid.{ConRow, FunRow}
use Rattle.law_typing.proofs.Gathered.{per_con}
use Rattle.law_typing.proofs.Told.{con_sym, con_syms, fun_syms}
use Rattle.law_typing.proofs.Blocks.{sort_no, nums, first_nums}
use Rattle.law_typing.proofs.Counted.{cons_of}
use Rattle.law_faultless.proofs.LaidBack.{con_row, sort_row, RowsOf}

-- A list by its places

get_all : {A : Type 0} (d : A) (front xs : List A) → map (λ k. slice_index_or (front ++ xs) k d) (nums (λ k. k) (length front) xs) ≡ xs
get_all d front [] = refl
get_all {A} d front (x ∷ xs) =
    ap₂ ◌∷◌ (at_front front)
    (ap₂ (λ l n. map (λ k. slice_index_or l k d) (nums (λ k. k) n xs)) (sym (append_assoc front (x ∷ []) xs)) (longer front) ∙ get_all d (front ++ x ∷ []) xs)
  where
    at_front : (front : List A) → slice_index_or (front ++ x ∷ xs) (length front) d ≡ x
    at_front [] = refl
    at_front (y ∷ front) = at_front front

    longer : (front : List A) → suc (length front) ≡ length (front ++ x ∷ [])
    longer [] = refl
    longer (y ∷ front) = ap suc (longer front)

map_nums : {A B C : Type 0} (f : A → B) (g : ℕ → A) (k : ℕ) (xs : List C) → map f (nums g k xs) ≡ nums (λ n. f (g n)) k xs
map_nums f g k [] = refl
map_nums f g k (x ∷ xs) = ap (λ z. f (g k) ∷ z) (map_nums f g (suc k) xs)

-- what stands at each place of a list, over as many places as it has items
pub by_places : {A B : Type 0} (f : ℕ → B) (g : B → A) (d : A) (xs : List A) (n : ℕ) → n ≡ length xs → ((k : ℕ) → g (f k) ≡ slice_index_or xs k d) → map g (first_of n f) ≡ xs
by_places {A} {B} f g d xs n e h =
    ap (λ m. map g (first_of m f)) e ∙ ap (map g) (first_nums f f 0 xs (λ i. ap f (zero_plus i)))
    ∙ map_nums g f 0 xs ∙ same 0 xs ∙ sym (map_nums (λ k. slice_index_or xs k d) (λ k. k) 0 xs) ∙ get_all d [] xs
  where
    zero_plus : (i : ℕ) → i ≡ 0 + i
    zero_plus i = omega arith

    same : (k : ℕ) (ys : List A) → nums (λ n. g (f n)) k ys ≡ nums (λ n. slice_index_or xs n d) k ys
    same k [] = refl
    same k (y ∷ ys) = ap₂ ◌∷◌ (h k) (same (suc k) ys)

pub map_map : {A B C : Type 0} (g : B → C) (f : A → B) (xs : List A) → map g (map f xs) ≡ map (λ x. g (f x)) xs
map_map g f [] = refl
map_map g f (x ∷ xs) = ap (λ z. g (f x) ∷ z) (map_map g f xs)

-- something for each constructor, in the order of the sorts
pub per_con_back : {A : Type 0} (parts : SigParts) (g : ConRow → A) (ids : List SortId)
    → per_con g (map (sort_row parts) ids) ≡ map (λ c. g (con_row parts c)) (joined (map (constructors parts) ids))
per_con_back parts g [] = refl
per_con_back parts g (s ∷ ids) = ap₂ ◌++◌ (map_map g (con_row parts) (constructors parts s)) (per_con_back parts g ids)
    ∙ sym (map-append (λ c. g (con_row parts c)) (constructors parts s) (joined (map (constructors parts) ids)))

pub fun_names_back : (parts : SigParts) (k : ℕ) (symbols : List Sym) (rows : List FunRow) → RowsOf parts k symbols rows
    → map (λ (r : FunRow). r.name) rows ≡ map (symbol_name parts) (functions_from k symbols)
fun_names_back parts k [] rows h = ap (map (λ (r : FunRow). r.name)) h
fun_names_back parts k (sym.Con con ∷ symbols) rows h = fun_names_back parts (suc k) symbols rows h
fun_names_back parts k (sym.Fun fun ∷ symbols) [] h = absurd h
fun_names_back parts k (sym.Fun fun ∷ symbols) (r ∷ rows) h = ap₂ ◌∷◌ h.0.name (fun_names_back parts (suc k) symbols rows h.1)

-- Names of sorts to numbers

module _ (text : Whole) (parts : SigParts) (formed : IsWellFormed parts) (sorts : text.sorts ≡ parts.sort_names) where
  pub sort_again : (s : SortId) → IsDeclared parts s → sort_id text.sorts (sort_name parts s) ≡ s
  sort_again s declared =
      let within : s.0 < length parts.sort_names = search (rules, declared) in
      sort_id_is text.sorts (sort_name parts s) s.0 (ap (λ l. number_of l (sort_name parts s)) sorts ∙ number_again parts.sort_names s.0 formed.sort_names.distinct within)

  pub sorts_again : (ss : List SortId) → Each (IsDeclared parts) ss → map (sort_id text.sorts) (map (sort_name parts) ss) ≡ ss
  sorts_again [] h = refl
  sorts_again (s ∷ ss) h = ap₂ ◌∷◌ (sort_again s h.0) (sorts_again ss h.1)

  pub args_again : (f : SymId) (symbol : Sym) → symbol_at parts f ≡ Some symbol → map (sort_id text.sorts) (arg_names parts f) ≡ args_of symbol
  args_again f symbol e = ap (λ o. map (sort_id text.sorts) (map (sort_name parts) (unwrap_or (option_map args_of o) []))) e
      ∙ sorts_again (args_of symbol) (formed.symbols f symbol e).args_declared

  con_again : (m : ℕ) (c : SymId) → In c (constructors parts (record { 0 = m })) → Some (headed (con_sym text.sorts m (con_row parts c))) ≡ option_map headed (symbol_at parts c)
  con_again m c at =
      let i = cons_of 0 parts.symbols (record { 0 = m }) c at in
      let plain : 0 + i.place ≡ i.place = omega arith in
      let declared : symbol_at parts c ≡ Some (sym.Con i.con) = ap (λ (z : SymId). slice_get parts.symbols z.0) i.is ∙ ap (slice_get parts.symbols) plain ∙ i.at in
      let sort : i.con.sort ≡ record { 0 = m } = same_sort_is i.con.sort (record { 0 = m }) i.of in
      ap₂ (λ s a. Some (sym.Con (record { sort = s; args = a }))) (sym sort) (args_again c (sym.Con i.con) declared) ∙ sym (ap (option_map headed) declared)

  cons_again : (m : ℕ) (cs : List SymId) → ((c : SymId) → In c cs → In c (constructors parts (record { 0 = m })))
      → map Some (map headed (map (con_sym text.sorts m) (map (con_row parts) cs))) ≡ map (λ f. option_map headed (symbol_at parts f)) cs
  cons_again m [] h = refl
  cons_again m (c ∷ cs) h = ap₂ ◌∷◌ (con_again m c (h c here)) (cons_again m cs (λ x at. h x (there at)))

  pub blocks_again : (m : ℕ) (ns : List (List ℕ)) → map Some (map headed (con_syms text.sorts m (map (sort_row parts) (nums sort_no m ns))))
      ≡ map (λ f. option_map headed (symbol_at parts f)) (joined (map (constructors parts) (nums sort_no m ns)))
  blocks_again m [] = refl
  blocks_again m (n ∷ ns) =
      let cs = constructors parts (record { 0 = m }) in
      let more = con_syms text.sorts (suc m) (map (sort_row parts) (nums sort_no (suc m) ns)) in
      ap (map Some) (map-append headed (map (con_sym text.sorts m) (map (con_row parts) cs)) more)
      ∙ map-append Some (map headed (map (con_sym text.sorts m) (map (con_row parts) cs))) (map headed more)
      ∙ ap₂ ◌++◌ (cons_again m cs (λ c at. at)) (blocks_again (suc m) ns)
      ∙ sym (map-append (λ f. option_map headed (symbol_at parts f)) cs (joined (map (constructors parts) (nums sort_no (suc m) ns))))

  pub funs_again : (v : Version) (k : ℕ) (symbols : List Sym) (rows : List FunRow) (tail : List RawLine)
      → ((i : ℕ) (s : Sym) → slice_get symbols i ≡ Some s → symbol_at parts (record { 0 = k + i }) ≡ Some s) → RowsOf parts k symbols rows
      → map Some (map headed (fun_syms text v rows tail)) ≡ map (λ f. option_map headed (symbol_at parts f)) (functions_from k symbols)
  funs_again v k [] rows tail at h = ap (λ z. map Some (map headed (fun_syms text v z tail))) h
  funs_again v k (sym.Con con ∷ symbols) rows tail at h =
      funs_again v (suc k) symbols rows tail (λ i s e. ap (λ n. symbol_at parts (record { 0 = n })) (later i) ∙ at (suc i) s e) h
    where
      later : (i : ℕ) → suc k + i ≡ k + suc i
      later i = omega arith
  funs_again v k (sym.Fun fun ∷ symbols) [] tail at h = absurd h
  funs_again v k (sym.Fun fun ∷ symbols) (r ∷ rows) tail at h =
      let here_it_is : symbol_at parts (record { 0 = k }) ≡ Some (sym.Fun fun) = ap (λ n. symbol_at parts (record { 0 = n })) plain ∙ at 0 (sym.Fun fun) refl in
      let symbol = formed.symbols (record { 0 = k }) (sym.Fun fun) here_it_is in
      ap₂ ◌∷◌ (ap₂ (λ a b. Some (sym.Fun (record { args = a; result = b; place = None; cases = [] })))
      (ap (map (sort_id text.sorts)) h.0.args ∙ args_again (record { 0 = k }) (sym.Fun fun) here_it_is)
      (ap (sort_id text.sorts) h.0.result ∙ sort_again fun.result symbol.result_declared) ∙ sym (ap (option_map headed) here_it_is))
      (funs_again v (suc k) symbols rows tail (λ i s e. ap (λ n. symbol_at parts (record { 0 = n })) (later i) ∙ at (suc i) s e) h.1)
    where
      plain : k ≡ k + 0
      plain = omega arith

      later : (i : ℕ) → suc k + i ≡ k + suc i
      later i = omega arith

  pub somes_same : {A : Type 0} (xs ys : List A) → map Some xs ≡ map Some ys → xs ≡ ys
  somes_same [] [] e = refl
  somes_same [] (y ∷ ys) e = cc
  somes_same (x ∷ xs) [] e = cc
  somes_same (x ∷ xs) (y ∷ ys) e = let h : ◌≡◌ {A = Option _} (Some x) (Some y) = cc in let t : map Some xs ≡ map Some ys = cc in ap₂ ◌∷◌ (some_is x y h) (somes_same xs ys t)
