-- A side of a background equation that is well-formed shows no fault.
use Rattle.std.proofs.Common.{◌≡◌, ℕ, zero, suc, ◌<◌, List, [], ◌∷◌, map, length, Bool, true, not, eq-eqb, rules, Option, Some, None, slice_get, refl, sym, ap, ◌∙◌, subst}
use Rattle.std.specs.List.{list_all}
use Rattle.std.specs.Option.{option_or}
use Rattle.std.proofs.lemmas.List.{length-map}
use Rattle.std.proofs.lemmas.Option.{slice_get-get_or, slice_get_within}
use Rattle.law_sig.specs.Lists.{Each}
use Rattle.law_sig.specs.Signature.{args_of, result_of, sort_of}
use Rattle.law_sig.specs.WellFormed.{IsWellFormed, vars_step}
use Rattle.law_sig.specs.declared.tree.SortId.{SortId}
use Rattle.law_sig.specs.declared.tree.SymId.{SymId}
use Rattle.law_sig.specs.declared.tree.Tree.{Tree}
use Rattle.law_sig.specs.declared.tree.Tree.TheVariants.{Var, App}
use Rattle.law_sig.specs.declared.tree.Tree.TheFolds.{fold-Tree}
use Rattle.law_sig.specs.declared.parts.Sym.{Sym}
use Rattle.law_sig.specs.declared.parts.Sym.TheVariants as sym
use Rattle.law_sig.specs.declared.parts.SigParts.{SigParts}
use Rattle.law_laws.proofs.TreeFacts.{tree_induct, fold-Var, fold-App}
use Rattle.law_laws.proofs.BodyFacts.{some_is, none_is}
use Rattle.law_laws.proofs.Sorts.{HaveSorts, sorted_app, sorted_var, same_sort_itself, both_true}
use Rattle.law_lines.specs.declared.raw.RawHead.{RawHead}
use Rattle.law_lines.specs.declared.raw.RawHead.TheVariants as head
use Rattle.law_lines.specs.declared.raw.RawTerm.{RawTerm}
use Rattle.law_lines.specs.declared.raw.RawTerm.TheOpen.{RawTerm-F}
use Rattle.law_lines.specs.declared.raw.RawTerm.TheFolds.{fold-roll-RawTerm}
use Rattle.law_typing.specs.Names.{number_of}
use Rattle.law_typing.specs.Naming.{sort_name, symbol_name, raw_term, named_term, name_step}
use Rattle.law_typing.specs.TermFaults.{Part, fault_if, mismatch, is_in_range, variable_faults, symbol_faults, name_faults, node_faults, is_field_term, part_step, head_symbol, symbol_of, wanted_of, term_fault}
use Rattle.law_typing.specs.LineFaults.{side_scope}
use Rattle.law_typing.specs.declared.errors.TypeKind.{TypeKind}
use Rattle.law_typing.specs.declared.errors.TypeKind.TheVariants as kind
use Rattle.law_typing.specs.declared.scope.Scope.{Scope}
use Rattle.law_typing.specs.declared.whole.Whole.{Whole}
use Rattle.law_typing.proofs.TermFacts.{args_fault, fields_are}
use Rattle.law_typing.proofs.TreeOfFacts.{number_again}

-- A text declares what a signature does

-- a symbol without the bodies that it has if it is a function
abbrev pub headed : Sym → Sym
headed (sym.Con con) = sym.Con con
headed (sym.Fun fun) = sym.Fun (record { args = fun.args; result = fun.result; place = None; cases = [] })

pub record Declares (text : Whole) (parts : SigParts) : Type 0 where
  pub sorts : text.sorts ≡ parts.sort_names
  pub names : text.names ≡ parts.symbol_names
  pub symbols : text.symbols ≡ map headed parts.symbols
  pub vars : text.vars ≡ parts.settings.vars

-- a symbol of the signature in the text, and the other way round
got_headed : (xs : List Sym) (f : ℕ) (symbol : Sym) → slice_get xs f ≡ Some symbol → slice_get (map headed xs) f ≡ Some (headed symbol)
got_headed [] f symbol e = none_is symbol e
got_headed (x ∷ xs) zero symbol e = ap (λ z. Some (headed z)) (some_is x symbol e)
got_headed (x ∷ xs) (suc f) symbol e = got_headed xs f symbol e

pub in_text : (text : Whole) (parts : SigParts) → Declares text parts → (f : ℕ) (symbol : Sym) → slice_get parts.symbols f ≡ Some symbol
    → slice_get text.symbols f ≡ Some (headed symbol)
in_text text parts declares f symbol e = ap (λ l. slice_get l f) declares.symbols ∙ got_headed parts.symbols f symbol e

had_symbol : (xs : List Sym) (f : ℕ) (h : Sym) → slice_get (map headed xs) f ≡ Some h → (symbol : Sym) × (slice_get xs f ≡ Some symbol) × (h ≡ headed symbol)
had_symbol [] f h e = none_is h e
had_symbol (x ∷ xs) zero h e = (x, refl, sym (some_is (headed x) h e))
had_symbol (x ∷ xs) (suc f) h e = had_symbol xs f h e

pub in_parts : (text : Whole) (parts : SigParts) → Declares text parts → (f : ℕ) (h : Sym) → slice_get text.symbols f ≡ Some h
    → (symbol : Sym) × (slice_get parts.symbols f ≡ Some symbol) × (h ≡ headed symbol)
in_parts text parts declares f h e = had_symbol parts.symbols f h (sym (ap (λ l. slice_get l f) declares.symbols) ∙ e)

pub headed_args : (symbol : Sym) → args_of (headed symbol) ≡ args_of symbol
headed_args (sym.Con con) = refl
headed_args (sym.Fun fun) = refl

pub headed_result : (symbol : Sym) → result_of (headed symbol) ≡ result_of symbol
headed_result (sym.Con con) = refl
headed_result (sym.Fun fun) = refl

-- A term by its parts

pub term_raw : (text : Whole) (scope : Scope) (wanted : Option SortId) (h : RawHead) (args : List RawTerm)
    → term_fault text scope wanted (raw_term h args)
    ≡ option_or (node_faults text scope (map is_field_term args) wanted h) (args_fault text scope (wanted_of (head_symbol text h)) args)
term_raw text scope wanted h args =
    let l : RawTerm-F RawTerm = record { head = h; args = args } in
    ap (λ (p : Part). p.fault wanted) (fold-roll-RawTerm Part (part_step text scope) l)
    ∙ ap (λ z. option_or (node_faults text scope z wanted h) (args_fault text scope (wanted_of (head_symbol text h)) args)) (fields_are text scope args)

-- the sort that is wanted is the one that is found
same_wanted : (s : SortId) → mismatch (Some s) s ≡ None
same_wanted s = ap (λ b. fault_if (not b) (kind.SortMismatch s s)) (same_sort_itself s)

both_none : (a c : Option TypeKind) → a ≡ None → c ≡ None → option_or a c ≡ None
both_none a c e k = ap (λ o. option_or o c) e ∙ k

-- a variable
variable_passes : (text : Whole) (index sort : ℕ) (wanted : Option SortId) (o : Option ℕ) → o ≡ Some sort → is_in_range index (slice_get text.vars sort) ≡ true
    → mismatch wanted (record { 0 = sort }) ≡ None → variable_faults text side_scope index 0 wanted o ≡ None
variable_passes text index sort wanted o e range fits =
    ap (variable_faults text side_scope index 0 wanted) e
    ∙ ap (λ b. option_or (fault_if (not b) kind.SettingRange) (mismatch wanted (record { 0 = sort }))) range ∙ fits

-- a symbol
symbol_passes : (number : ℕ) (fields : List Bool) (wanted : Option SortId) (symbol : Sym) → length fields ≡ length (args_of symbol)
    → mismatch wanted (result_of symbol) ≡ None → symbol_faults side_scope number fields wanted (Some symbol) ≡ None
symbol_passes number fields wanted symbol count fits =
    ap (λ b. option_or (fault_if (not b) kind.Arity) (option_or (mismatch wanted (result_of symbol)) None)) (eq-eqb (length fields) (length (args_of symbol)) count)
    ∙ ap (λ o. option_or o None) fits

-- Well-formed sides

abbrev pub vars_below : SigParts → Tree → Bool
vars_below parts = fold-Tree Bool (vars_step parts)

abbrev Passes : Whole → SigParts → Tree → Type 0
Passes text parts t = (wanted : Option SortId) (sort : SortId) → sort_of parts t ≡ Some sort → vars_below parts t ≡ true → mismatch wanted sort ≡ None
    → term_fault text side_scope wanted (named_term parts t) ≡ None

args_pass : (text : Whole) (parts : SigParts) (ts : List Tree) (ws : List SortId) → Each (Passes text parts) ts → HaveSorts parts ts ws
    → list_all (λ v. v) (map (vars_below parts) ts) ≡ true → args_fault text side_scope ws (map (named_term parts) ts) ≡ None
args_pass text parts [] [] have sorts below = refl
args_pass text parts [] (w ∷ ws) have sorts below = absurd sorts
args_pass text parts (t ∷ ts) [] have sorts below = absurd sorts
args_pass text parts (t ∷ ts) (w ∷ ws) have sorts below =
    let b = both_true (vars_below parts t) (list_all (λ v. v) (map (vars_below parts) ts)) below in
    both_none (term_fault text side_scope (Some w) (named_term parts t)) (args_fault text side_scope ws (map (named_term parts) ts))
    (have.0 (Some w) w sorts.0 b.0 (same_wanted w)) (args_pass text parts ts ws have.1 sorts.1 b.1)

sorts_count : (parts : SigParts) (ts : List Tree) (ws : List SortId) → HaveSorts parts ts ws → length ts ≡ length ws
sorts_count parts [] [] h = refl
sorts_count parts [] (w ∷ ws) h = absurd h
sorts_count parts (t ∷ ts) [] h = absurd h
sorts_count parts (t ∷ ts) (w ∷ ws) h = ap suc (sorts_count parts ts ws h.1)

pub side_passes : (text : Whole) (parts : SigParts) → Declares text parts → IsWellFormed parts → (t : Tree) → Passes text parts t
side_passes text parts declares formed = tree_induct (Passes text parts) at_var at_app
  where
    at_var : (s : SortId) (i : ℕ) → Passes text parts (Var s i)
    at_var s i wanted sort is below fits =
        let (declared, same) = sorted_var parts s i sort is in
        let within : s.0 < length parts.sort_names = search (rules, declared) in
        let in_vars : s.0 < length parts.settings.vars = subst (λ n. s.0 < n) (sym formed.settings.vars.one_each) within in
        let number : number_of text.sorts (sort_name parts s) ≡ Some s.0 =
        ap (λ names. number_of names (sort_name parts s)) declares.sorts ∙ number_again parts.sort_names s.0 formed.sort_names.distinct within in
        let range : is_in_range i (slice_get text.vars s.0) ≡ true =
        ap (λ l. is_in_range i (slice_get l s.0)) declares.vars ∙ ap (is_in_range i) (slice_get-get_or parts.settings.vars s.0 0 in_vars)
        ∙ sym (fold-Var Bool (vars_step parts) s i) ∙ below in
        ap (term_fault text side_scope wanted) (fold-Var RawTerm (name_step parts) s i)
        ∙ term_raw text side_scope wanted (head.Var (sort_name parts s) i) []
        ∙ both_none (node_faults text side_scope [] wanted (head.Var (sort_name parts s) i)) None
        (variable_passes text i s.0 wanted (number_of text.sorts (sort_name parts s)) number range (ap (mismatch wanted) same ∙ fits)) refl

    at_app : (f : SymId) (args : List Tree) → Each (Passes text parts) args → Passes text parts (App f args)
    at_app f args have wanted sort is below fits =
        let a = sorted_app parts f args sort is in
        let within : f.0 < length parts.symbol_names = subst (λ n. f.0 < n) (sym formed.one_name_each) (slice_get_within parts.symbols f.0 a.symbol a.declared) in
        let number : number_of text.names (symbol_name parts f) ≡ Some f.0 =
        ap (λ names. number_of names (symbol_name parts f)) declares.names ∙ number_again parts.symbol_names f.0 formed.symbol_names.distinct within in
        let found : slice_get text.symbols f.0 ≡ Some (headed a.symbol) = in_text text parts declares f.0 a.symbol a.declared in
        let fields = map is_field_term (map (named_term parts) args) in
        let count : length fields ≡ length (args_of (headed a.symbol)) =
        length-map (map (named_term parts) args) is_field_term ∙ length-map args (named_term parts)
        ∙ sorts_count parts args (args_of a.symbol) a.sorts ∙ ap length (sym (headed_args a.symbol)) in
        let result : mismatch wanted (result_of (headed a.symbol)) ≡ None = ap (mismatch wanted) (headed_result a.symbol ∙ a.result) ∙ fits in
        let root : node_faults text side_scope fields wanted (head.Name (symbol_name parts f)) ≡ None =
        ap (name_faults text side_scope fields wanted) number ∙ ap (symbol_faults side_scope f.0 fields wanted) found
        ∙ symbol_passes f.0 fields wanted (headed a.symbol) count result in
        let sorts : wanted_of (head_symbol text (head.Name (symbol_name parts f))) ≡ args_of a.symbol =
        ap (λ o. wanted_of (symbol_of text o)) number ∙ ap wanted_of found ∙ headed_args a.symbol in
        ap (term_fault text side_scope wanted) (fold-App RawTerm (name_step parts) f args)
        ∙ term_raw text side_scope wanted (head.Name (symbol_name parts f)) (map (named_term parts) args)
        ∙ both_none (node_faults text side_scope fields wanted (head.Name (symbol_name parts f)))
        (args_fault text side_scope (wanted_of (head_symbol text (head.Name (symbol_name parts f)))) (map (named_term parts) args)) root
        (ap (λ l. args_fault text side_scope l (map (named_term parts) args)) sorts
        ∙ args_pass text parts args (args_of a.symbol) have a.sorts (sym (fold-App Bool (vars_step parts) f args) ∙ below))
