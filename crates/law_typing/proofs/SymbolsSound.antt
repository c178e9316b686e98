-- The symbols of a text without faults are well-formed, and their lines are written so.
use Rattle.std.proofs.Common.{◌≡◌, ℕ, zero, suc, ◌+◌, ◌≤◌, List, [], ◌∷◌, ◌++◌, map, length, Some, slice_get, option_map, unwrap_or, rules, arith, append_assoc, refl, sym, ap, ap₂, ◌∙◌, subst}
use Rattle.std.proofs.lemmas.List.{length-map}
use Rattle.law_sig.specs.Lists.{Each, AreDistinct}
use Rattle.law_sig.specs.Trees.{joined}
use Rattle.law_sig.specs.Signature.{args_of, constructors}
use Rattle.law_sig.specs.WellFormed.{IsDeclared, IsSymbol}
use Rattle.law_sig.specs.declared.tree.SymId.{SymId}
use Rattle.law_sig.specs.declared.parts.Sym.{Sym}
use Rattle.law_sig.specs.declared.parts.Sym.TheVariants as sym
use Rattle.law_sig.specs.declared.parts.SigParts.{SigParts}
use Rattle.law_laws.proofs.BodyFacts.{some_is, none_is}
use Rattle.law_lines.specs.declared.raw.RawLine.{RawLine}
use Rattle.law_lines.specs.declared.raw.RawLine.TheVariants as line
use Rattle.law_typing.specs.Naming.{sort_name, symbol_name}
use Rattle.law_typing.specs.Declarations.{sort_id}
use Rattle.law_typing.specs.TermFaults.{wanted_of}
use Rattle.law_typing.specs.LineFaults.{after_sort, after_symbol, owner, sort_given, case_names}
use Rattle.law_typing.specs.Typed.{Version, arg_names, AreFunLines, AreNumbered, functions_from, sort_ids}
use Rattle.law_typing.specs.Typed as typed
use Rattle.law_typing.specs.Typed.Version.{first, second, third}
use Rattle.law_typing.specs.declared.seen.Seen.{Seen}
use Rattle.law_typing.specs.declared.whole.Whole.{Whole}
use Rattle.law_typing.proofs.SideFacts.{Declares, headed, in_text}
use Rattle.law_typing.proofs.Laid.{ConRow, SortRow, FunRow, fun_line, rules_then, funs_then}
use Rattle.law_typing.proofs.Told.{con_sym, con_syms, fun_sym, fun_syms}
use Rattle.law_typing.proofs.Passed.{ConsGood, SortsGood, FunGood, FunsGood, cons_seen, rules_seen}
use Rattle.law_typing.proofs.Fresh.{rules_symbols}
use Rattle.law_typing.proofs.Spelled.{ConSpelled, SortSpelled, FunSpelled}
use Rattle.law_typing.proofs.Blocks.{sort_no, sym_no, nums, past, past_all, first_nums, SymAt, FunsAt, RowsAt, BlocksAt, known_sort, known_args, known_named}
use Rattle.law_typing.proofs.RulesSound.{IsAt, fun_at, rule_lines, rules_split, rules_sound}

-- each symbol from a number on
abbrev pub EachSym : SigParts → ℕ → List Sym → Type 0
EachSym parts k [] = Unit {0}
EachSym parts k (s ∷ ss) = IsSymbol parts (record { 0 = k }) s × EachSym parts (suc k) ss

pub sym_found : (parts : SigParts) (k : ℕ) (ss : List Sym) → EachSym parts k ss → (i : ℕ) (s : Sym) → slice_get ss i ≡ Some s → IsSymbol parts (record { 0 = k + i }) s
sym_found parts k [] h i s e = none_is s e
sym_found parts k (x ∷ ss) h zero s e =
    let plain : k ≡ k + 0 = omega arith in
    subst (λ n. IsSymbol parts (record { 0 = n }) s) plain (subst (IsSymbol parts (record { 0 = k })) (some_is x s e) h.0)
sym_found parts k (x ∷ ss) h (suc i) s e =
    let later : suc k + i ≡ k + suc i = omega arith in
    subst (λ n. IsSymbol parts (record { 0 = n }) s) later (sym_found parts (suc k) ss h.1 i s e)

few : (sorts args : List (List ℕ)) → length args ≤ 8 → length (map (sort_id sorts) args) ≤ 8
few sorts args h = subst (λ n. n ≤ 8) (sym (length-map args (sort_id sorts))) h

cons_ok : (text : Whole) (parts : SigParts) (seen : Seen) (m k : ℕ) (cs : List ConRow) (rest : List Sym) → Declares text parts → IsDeclared parts (record { 0 = m })
    → ConsGood text seen cs → Each ConSpelled cs → EachSym parts (past k cs) rest → EachSym parts k (map (con_sym text.sorts m) cs ++ rest)
cons_ok text parts seen m k [] rest declares here good spelled h = h
cons_ok text parts seen m k (c ∷ cs) rest declares here good spelled h = (
  record {
    args_declared = known_args text parts declares c.args good.0.args;
    args_bound = few text.sorts c.args spelled.0.few;
    result_declared = here;
    bodies = tt;
  },
  cons_ok text parts (after_symbol seen) m (suc k) cs rest declares here good.1 spelled.1 h,
)

sorts_ok : (text : Whole) (parts : SigParts) (seen : Seen) (m k : ℕ) (ss : List SortRow) (rest : List Sym) → Declares text parts → RowsAt parts m ss
    → SortsGood text seen ss → Each SortSpelled ss → EachSym parts (past_all k ss) rest → EachSym parts k (con_syms text.sorts m ss ++ rest)
sorts_ok text parts seen m k [] rest declares rows good spelled h = h
sorts_ok text parts seen m k (s ∷ ss) rest declares rows good spelled h =
    let within = rows.0.within in
    let here : IsDeclared parts (record { 0 = m }) = search (rules, within) in
    subst (EachSym parts k) (sym (append_assoc (map (con_sym text.sorts m) s.cons) (con_syms text.sorts (suc m) ss) rest))
    (cons_ok text parts (after_sort seen) m k s.cons (con_syms text.sorts (suc m) ss ++ rest) declares here good.1 spelled.0.cons
    (sorts_ok text parts (cons_seen (after_sort seen) s.cons) (suc m) (past k s.cons) ss rest declares rows.1 good.2 spelled.1 h))

-- Functions

abbrev pub funs_lines : Version → List FunRow → List RawLine
funs_lines v [] = []
funs_lines v (r ∷ fs) = fun_line v r ∷ (rule_lines r.rules ++ funs_lines v fs)

pub funs_split : (v : Version) (fs : List FunRow) (tail : List RawLine) → funs_then v fs tail ≡ funs_lines v fs ++ tail
funs_split v [] tail = refl
funs_split v (r ∷ fs) tail = ap (λ z. fun_line v r ∷ z) (rules_split r.rules (funs_then v fs tail)
    ∙ ap (λ z. rule_lines r.rules ++ z) (funs_split v fs tail) ∙ sym (append_assoc (rule_lines r.rules) (funs_lines v fs) tail))

pub no_cases : (v : Version) (fs : List FunRow) (tail : List RawLine) → case_names tail ≡ [] → case_names (funs_then v fs tail) ≡ []
no_cases v [] tail e = e
no_cases (first vars width) (r ∷ fs) tail e = refl
no_cases second (r ∷ fs) tail e = refl
no_cases third (r ∷ fs) tail e = refl

fun_again : (text : Whole) (parts : SigParts) (v : Version) (k : ℕ) (r : FunRow) (seen : Seen) (lines : List RawLine) → Declares text parts
    → SymAt parts k r.name r.weight (fun_sym text r lines) → FunGood text seen r
    → typed.fun_line v parts (record { 0 = k }) (fun_at text (map (sort_id text.sorts) r.args) (sort_id text.sorts r.result) lines) ≡ fun_line v r
fun_again text parts v k r seen lines declares at good = by v
  where
    args : arg_names parts (record { 0 = k }) ≡ r.args
    args = ap (λ o. map (sort_name parts) (unwrap_or (option_map args_of o) [])) at.symbol_is ∙ known_named text parts declares r.args good.args

    gives : sort_name parts (sort_id text.sorts r.result) ≡ r.result
    gives = (known_sort text parts declares r.result good.result).1

    by : (v : Version) → typed.fun_line v parts (record { 0 = k }) (fun_at text (map (sort_id text.sorts) r.args) (sort_id text.sorts r.result) lines) ≡ fun_line v r
    by (first vars width) = ap₂ (λ n a. line.FunLine n a (sort_name parts (sort_id text.sorts r.result))) at.name_is args ∙ ap (line.FunLine r.name r.args) gives
    by second = ap₂ (λ n a. line.FunLine n a (sort_name parts (sort_id text.sorts r.result))) at.name_is args ∙ ap (line.FunLine r.name r.args) gives
    by third = ap (λ w. line.FunLine3 w (symbol_name parts (record { 0 = k })) (arg_names parts (record { 0 = k })) (sort_name parts (sort_id text.sorts r.result))) at.weight_is
        ∙ ap₂ (λ n a. line.FunLine3 r.weight n a (sort_name parts (sort_id text.sorts r.result))) at.name_is args ∙ ap (line.FunLine3 r.weight r.name r.args) gives

pub record FunsOk (text : Whole) (parts : SigParts) (v : Version) (k : ℕ) (fs : List FunRow) (tail : List RawLine) : Type 0 where
  pub syms : EachSym parts k (fun_syms text v fs tail)
  pub lines : AreFunLines v parts k (fun_syms text v fs tail) (funs_lines v fs)

pub funs_ok : (text : Whole) (parts : SigParts) (v : Version) (seen : Seen) (k : ℕ) (fs : List FunRow) (tail : List RawLine) → Declares text parts
    → AreDistinct parts.symbol_names → length parts.symbol_names ≡ length parts.symbols → seen.symbols ≡ k → case_names tail ≡ []
    → FunsAt parts text v k fs tail → FunsGood text v seen fs tail → Each FunSpelled fs → FunsOk text parts v k fs tail
funs_ok text parts v seen k [] tail declares distinct one_each here none at good spelled = record { syms = tt; lines = refl }
funs_ok text parts v seen k (r ∷ fs) tail declares distinct one_each here none at good spelled =
    let args = map (sort_id text.sorts) r.args in
    let result = sort_id text.sorts r.result in
    let rest = funs_then v fs tail in
    let fun = fun_at text args result (rules_then r.rules rest) in
    let own : owner (after_symbol seen) ≡ k = omega arith in
    let symbol : slice_get text.symbols (owner (after_symbol seen)) ≡ Some (headed (sym.Fun fun)) =
    ap (slice_get text.symbols) own ∙ in_text text parts declares k (sym.Fun fun) at.0.symbol_is in
    let is_at : IsAt text (after_symbol seen) k args result = record { owner_is = own; wants = ap wanted_of symbol; gives = ap sort_given symbol } in
    let ok = rules_sound text parts (after_symbol seen) k args result r.rules rest declares distinct one_each is_at refl (few text.sorts r.args spelled.0.few)
    (no_cases v fs tail none) good.1 spelled.0.rules in
    let next : (rules_seen (after_symbol seen) r.rules).symbols ≡ suc k = rules_symbols (after_symbol seen) r.rules ∙ one_more seen.symbols here in
    let m = funs_ok text parts v (rules_seen (after_symbol seen) r.rules) (suc k) fs tail declares distinct one_each next none at.1 good.2 spelled.1 in
    record {
      syms = (
        record {
          args_declared = known_args text parts declares r.args good.0.args;
          args_bound = few text.sorts r.args spelled.0.few;
          result_declared = (known_sort text parts declares r.result good.0.result).0;
          bodies = ok.fits;
        },
        m.syms,
      );
      lines = (
        rule_lines r.rules,
        funs_lines v fs,
        ap (λ z. z ∷ (rule_lines r.rules ++ funs_lines v fs)) (sym (fun_again text parts v k r seen (rules_then r.rules rest) declares at.0 good.0)),
        ok.rules,
        m.lines,
      );
    }
  where
    one_more : (n : ℕ) → n ≡ k → n + 1 ≡ suc k
    one_more n e = omega arith

-- the constructors before them have no lines of functions
skip_cons : (v : Version) (parts : SigParts) (sorts : List (List ℕ)) (m k : ℕ) (cs : List ConRow) (rest : List Sym) (lines : List RawLine)
    → AreFunLines v parts (past k cs) rest lines → AreFunLines v parts k (map (con_sym sorts m) cs ++ rest) lines
skip_cons v parts sorts m k [] rest lines h = h
skip_cons v parts sorts m k (c ∷ cs) rest lines h = skip_cons v parts sorts m (suc k) cs rest lines h

pub skip_sorts : (v : Version) (parts : SigParts) (sorts : List (List ℕ)) (m k : ℕ) (ss : List SortRow) (rest : List Sym) (lines : List RawLine)
    → AreFunLines v parts (past_all k ss) rest lines → AreFunLines v parts k (con_syms sorts m ss ++ rest) lines
skip_sorts v parts sorts m k [] rest lines h = h
skip_sorts v parts sorts m k (s ∷ ss) rest lines h =
    subst (λ z. AreFunLines v parts k z lines) (sym (append_assoc (map (con_sym sorts m) s.cons) (con_syms sorts (suc m) ss) rest))
    (skip_cons v parts sorts m k s.cons (con_syms sorts (suc m) ss ++ rest) lines (skip_sorts v parts sorts (suc m) (past k s.cons) ss rest lines h))

pub all_syms : (text : Whole) (parts : SigParts) (seen : Seen) (ss : List SortRow) (rest : List Sym) → Declares text parts → RowsAt parts 0 ss
    → SortsGood text seen ss → Each SortSpelled ss → EachSym parts (past_all 0 ss) rest → EachSym parts 0 (con_syms text.sorts 0 ss ++ rest)
all_syms text parts seen ss rest declares rows good spelled h = sorts_ok text parts seen 0 0 ss rest declares rows good spelled h

-- Numbers

abbrev all_ids : ℕ → List SortRow → List SymId
all_ids k [] = []
all_ids k (s ∷ ss) = nums sym_no k s.cons ++ all_ids (past k s.cons) ss

joined_ids : (parts : SigParts) (m k : ℕ) (ss : List SortRow) → BlocksAt parts m k ss → joined (map (constructors parts) (nums sort_no m ss)) ≡ all_ids k ss
joined_ids parts m k [] h = refl
joined_ids parts m k (s ∷ ss) h = ap₂ ◌++◌ h.0 (joined_ids parts (suc m) (past k s.cons) ss h.1)

ids_cons : (sorts : List (List ℕ)) (m k : ℕ) (cs : List ConRow) (rest : List Sym) → functions_from k (map (con_sym sorts m) cs ++ rest) ≡ functions_from (past k cs) rest
ids_cons sorts m k [] rest = refl
ids_cons sorts m k (c ∷ cs) rest = ids_cons sorts m (suc k) cs rest

ids_funs : (text : Whole) (v : Version) (k : ℕ) (fs : List FunRow) (tail : List RawLine) → functions_from k (fun_syms text v fs tail) ≡ nums sym_no k (fun_syms text v fs tail)
ids_funs text v k [] tail = refl
ids_funs text v k (r ∷ fs) tail = ap (λ z. sym_no k ∷ z) (ids_funs text v (suc k) fs tail)

nums_cons : (sorts : List (List ℕ)) (m k : ℕ) (cs : List ConRow) (rest : List Sym) → nums sym_no k (map (con_sym sorts m) cs ++ rest) ≡ nums sym_no k cs ++ nums sym_no (past k cs) rest
nums_cons sorts m k [] rest = refl
nums_cons sorts m k (c ∷ cs) rest = ap (λ z. sym_no k ∷ z) (nums_cons sorts m (suc k) cs rest)

numbered : (text : Whole) (v : Version) (m k : ℕ) (ss : List SortRow) (fs : List FunRow) (tail : List RawLine)
    → all_ids k ss ++ functions_from k (con_syms text.sorts m ss ++ fun_syms text v fs tail) ≡ nums sym_no k (con_syms text.sorts m ss ++ fun_syms text v fs tail)
numbered text v m k [] fs tail = ids_funs text v k fs tail
numbered text v m k (s ∷ ss) fs tail =
    let F = fun_syms text v fs tail in
    let regroup = append_assoc (map (con_sym text.sorts m) s.cons) (con_syms text.sorts (suc m) ss) F in
    ap (λ z. (nums sym_no k s.cons ++ all_ids (past k s.cons) ss) ++ functions_from k z) regroup
    ∙ ap (λ z. (nums sym_no k s.cons ++ all_ids (past k s.cons) ss) ++ z) (ids_cons text.sorts m k s.cons (con_syms text.sorts (suc m) ss ++ F))
    ∙ append_assoc (nums sym_no k s.cons) (all_ids (past k s.cons) ss) (functions_from (past k s.cons) (con_syms text.sorts (suc m) ss ++ F))
    ∙ ap (λ z. nums sym_no k s.cons ++ z) (numbered text v (suc m) (past k s.cons) ss fs tail)
    ∙ sym (nums_cons text.sorts m k s.cons (con_syms text.sorts (suc m) ss ++ F)) ∙ ap (nums sym_no k) (sym regroup)

pub are_numbered : (text : Whole) (parts : SigParts) (v : Version) (ss : List SortRow) (fs : List FunRow) (tail : List RawLine) → BlocksAt parts 0 0 ss
    → sort_ids parts ≡ nums sort_no 0 ss → parts.symbols ≡ con_syms text.sorts 0 ss ++ fun_syms text v fs tail → AreNumbered parts
are_numbered text parts v ss fs tail blocks ids symbols =
    ap (λ z. joined (map (constructors parts) z) ++ functions_from 0 parts.symbols) ids
    ∙ ap₂ ◌++◌ (joined_ids parts 0 0 ss blocks) (ap (functions_from 0) symbols)
    ∙ numbered text v 0 0 ss fs tail ∙ ap (nums sym_no 0) (sym symbols) ∙ sym (first_nums (λ n. record { 0 = n }) sym_no 0 parts.symbols zero_plus)
  where
    zero_plus : (i : ℕ) → ◌≡◌ {A = SymId} (record { 0 = i }) (sym_no (0 + i))
    zero_plus i = let e : i ≡ 0 + i = omega arith in ap sym_no e
