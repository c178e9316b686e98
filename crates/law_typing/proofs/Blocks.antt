-- The sorts and symbols of a text, by number.
use Rattle.std.proofs.Common.{◌≡◌, ◌≢◌, ℕ, zero, suc, ◌+◌, ◌<◌, ◌≤◌, List, [], ◌∷◌, ◌++◌, map, length, drop, true, ne_eqb, eq-eqb, is_some, Option, Some, None, slice_get, option_map, unwrap_or, if◌then◌else◌, rules, arith, add-one, append_assoc, append-nil, true≢false, refl, sym, ap, ap₂, ◌∙◌, subst}
use Rattle.std.proofs.lemmas.Option.{slice_get_within, get_or_from_slice_get}
use Rattle.law_sig.specs.Lists.{Each}
use Rattle.law_sig.specs.Trees.{joined}
use Rattle.law_sig.specs.Tests.{first_of}
use Rattle.law_sig.specs.Signature.{symbol_at, args_of, constructors, constructors_from, vars_at, width_at, weight_at}
use Rattle.law_sig.specs.WellFormed.{IsDeclared}
use Rattle.law_sig.specs.declared.tree.SortId.{SortId}
use Rattle.law_sig.specs.declared.tree.SymId.{SymId}
use Rattle.law_sig.specs.declared.parts.Sym.{Sym}
use Rattle.law_sig.specs.declared.parts.SigParts.{SigParts}
use Rattle.law_lines.specs.declared.raw.RawLine.{RawLine}
use Rattle.law_lines.specs.declared.raw.RawLine.TheVariants as line
use Rattle.law_typing.specs.Names.{number_of}
use Rattle.law_typing.specs.Naming.{sort_name, symbol_name}
use Rattle.law_typing.specs.Declarations.{sort_id}
use Rattle.law_typing.specs.Typed.{Version, arg_names, sort_ids, sort_block, functions_from, AreNumbered}
use Rattle.law_typing.specs.Typed as typed
use Rattle.law_typing.specs.Typed.Version.{first, second, third}
use Rattle.law_typing.specs.LineFaults.{after_sort, after_symbol}
use Rattle.law_typing.specs.declared.seen.Seen.{Seen}
use Rattle.law_typing.specs.declared.whole.Whole.{Whole}
use Rattle.law_typing.proofs.NumberFacts.{stands_at}
use Rattle.law_typing.proofs.SideFacts.{Declares}
use Rattle.law_typing.proofs.TermSound.{sort_named, sort_id_is}
use Rattle.law_typing.proofs.Laid.{ConRow, SortRow, FunRow, Layout, con_line, sort_line, cons_then, sorts_then, rules_then, funs_then, tail_lines}
use Rattle.law_typing.proofs.Gathered.{per_con}
use Rattle.law_typing.proofs.Told.{con_sym, con_syms, fun_sym, fun_syms}
use Rattle.law_typing.proofs.Passed.{Both, IsKnown, ConsGood, SortsGood, cons_seen}
use Rattle.law_typing.proofs.States.{States}

abbrev pub sort_no : ℕ → SortId
sort_no n = record { 0 = n }

abbrev pub sym_no : ℕ → SymId
sym_no n = record { 0 = n }

-- as many numbers as there are items, from this one on
abbrev pub nums : {A B : Type 0} → (ℕ → A) → ℕ → List B → List A
nums g k [] = []
nums g k (x ∷ xs) = g k ∷ nums g (suc k) xs

-- the number behind them
abbrev pub past : {B : Type 0} → ℕ → List B → ℕ
past k [] = k
past k (x ∷ xs) = past (suc k) xs

abbrev pub past_all : ℕ → List SortRow → ℕ
past_all k [] = k
past_all k (s ∷ ss) = past_all (past k s.cons) ss

pub first_nums : {A B : Type 0} (f g : ℕ → A) (m : ℕ) (xs : List B) → ((i : ℕ) → f i ≡ g (m + i)) → first_of (length xs) f ≡ nums g m xs
first_nums f g m [] h = refl
first_nums f g m (x ∷ xs) h = ap₂ ◌∷◌ (h 0 ∙ ap g here) (first_nums (λ i. f (suc i)) g (suc m) xs (λ i. h (suc i) ∙ ap g (later i)))
  where
    here : m + 0 ≡ m
    here = omega arith

    later : (i : ℕ) → m + suc i ≡ suc m + i
    later i = omega arith

-- What stands from a place on

dropped : {A : Type 0} (xs : List A) (k : ℕ) (y : A) (ys : List A) → drop k xs ≡ y ∷ ys → (slice_get xs k ≡ Some y) × (drop (suc k) xs ≡ ys)
dropped [] zero y ys e = cc
dropped [] (suc k) y ys e = cc
dropped (x ∷ xs) zero y ys e = let h : x ≡ y = cc in let t : xs ≡ ys = cc in (ap Some h, t)
dropped (x ∷ xs) (suc k) y ys e = dropped xs k y ys e

record SymsFrom (parts : SigParts) (k : ℕ) (names : List (List ℕ)) (weights : List ℕ) (symbols : List Sym) : Type 0 where
  names_are : drop k parts.symbol_names ≡ names
  weights_are : drop k parts.settings.weights ≡ weights
  symbols_are : drop k parts.symbols ≡ symbols

pub record SymAt (parts : SigParts) (k : ℕ) (name : List ℕ) (weight : ℕ) (symbol : Sym) : Type 0 where
  pub name_is : symbol_name parts (record { 0 = k }) ≡ name
  pub named : slice_get parts.symbol_names k ≡ Some name
  pub weight_is : weight_at parts (record { 0 = k }) ≡ weight
  pub symbol_is : symbol_at parts (record { 0 = k }) ≡ Some symbol

next_sym : (parts : SigParts) (k : ℕ) (n : List ℕ) (ns : List (List ℕ)) (w : ℕ) (ws : List ℕ) (s : Sym) (ss : List Sym)
    → SymsFrom parts k (n ∷ ns) (w ∷ ws) (s ∷ ss) → Both (SymAt parts k n w s) (SymsFrom parts (suc k) ns ws ss)
next_sym parts k n ns w ws s ss c =
    let a = dropped parts.symbol_names k n ns c.names_are in
    let b = dropped parts.settings.weights k w ws c.weights_are in
    let d = dropped parts.symbols k s ss c.symbols_are in
    record {
      one = record {
        name_is = get_or_from_slice_get parts.symbol_names k n [] a.0;
        named = a.0;
        weight_is = get_or_from_slice_get parts.settings.weights k w 1 b.0;
        symbol_is = d.0;
      };
      other = record { names_are = a.1; weights_are = b.1; symbols_are = d.1 };
    }

abbrev pub ConsAt : SigParts → List (List ℕ) → ℕ → ℕ → List ConRow → Type 0
ConsAt parts sorts m k [] = Unit {0}
ConsAt parts sorts m k (c ∷ cs) = SymAt parts k c.name c.weight (con_sym sorts m c) × ConsAt parts sorts m (suc k) cs

abbrev pub SortsAt : SigParts → List (List ℕ) → ℕ → ℕ → List SortRow → Type 0
SortsAt parts sorts m k [] = Unit {0}
SortsAt parts sorts m k (s ∷ ss) = ConsAt parts sorts m k s.cons × SortsAt parts sorts (suc m) (past k s.cons) ss

abbrev pub FunsAt : SigParts → Whole → Version → ℕ → List FunRow → List RawLine → Type 0
FunsAt parts text v k [] tail = Unit {0}
FunsAt parts text v k (r ∷ fs) tail =
    SymAt parts k r.name r.weight (fun_sym text r (rules_then r.rules (funs_then v fs tail))) × FunsAt parts text v (suc k) fs tail

cons_at : (parts : SigParts) (sorts : List (List ℕ)) (m k : ℕ) (cs : List ConRow) (ns : List (List ℕ)) (ws : List ℕ) (ts : List Sym)
    → SymsFrom parts k (map (λ (c : ConRow). c.name) cs ++ ns) (map (λ (c : ConRow). c.weight) cs ++ ws) (map (con_sym sorts m) cs ++ ts)
    → Both (ConsAt parts sorts m k cs) (SymsFrom parts (past k cs) ns ws ts)
cons_at parts sorts m k [] ns ws ts h = record { one = tt; other = h }
cons_at parts sorts m k (c ∷ cs) ns ws ts h =
    let a = next_sym parts k c.name (map (λ (c : ConRow). c.name) cs ++ ns) c.weight (map (λ (c : ConRow). c.weight) cs ++ ws)
    (con_sym sorts m c) (map (con_sym sorts m) cs ++ ts) h in
    let r = cons_at parts sorts m (suc k) cs ns ws ts a.other in
    record { one = (a.one, r.one); other = r.other }

regroup : (parts : SigParts) (k : ℕ) (a b c : List (List ℕ)) (d e f : List ℕ) (x y z : List Sym)
    → SymsFrom parts k ((a ++ b) ++ c) ((d ++ e) ++ f) ((x ++ y) ++ z) → SymsFrom parts k (a ++ (b ++ c)) (d ++ (e ++ f)) (x ++ (y ++ z))
regroup parts k a b c d e f x y z h = record {
  names_are = h.names_are ∙ append_assoc a b c;
  weights_are = h.weights_are ∙ append_assoc d e f;
  symbols_are = h.symbols_are ∙ append_assoc x y z;
}

sorts_at : (parts : SigParts) (sorts : List (List ℕ)) (m k : ℕ) (ss : List SortRow) (ns : List (List ℕ)) (ws : List ℕ) (ts : List Sym)
    → SymsFrom parts k (per_con (λ c. c.name) ss ++ ns) (per_con (λ c. c.weight) ss ++ ws) (con_syms sorts m ss ++ ts)
    → Both (SortsAt parts sorts m k ss) (SymsFrom parts (past_all k ss) ns ws ts)
sorts_at parts sorts m k [] ns ws ts h = record { one = tt; other = h }
sorts_at parts sorts m k (s ∷ ss) ns ws ts h =
    let a = cons_at parts sorts m k s.cons (per_con (λ c. c.name) ss ++ ns) (per_con (λ c. c.weight) ss ++ ws) (con_syms sorts (suc m) ss ++ ts)
    (regroup parts k (map (λ (c : ConRow). c.name) s.cons) (per_con (λ c. c.name) ss) ns (map (λ (c : ConRow). c.weight) s.cons) (per_con (λ c. c.weight) ss) ws
    (map (con_sym sorts m) s.cons) (con_syms sorts (suc m) ss) ts h) in
    let r = sorts_at parts sorts (suc m) (past k s.cons) ss ns ws ts a.other in
    record { one = (a.one, r.one); other = r.other }

funs_at : (parts : SigParts) (text : Whole) (v : Version) (k : ℕ) (fs : List FunRow) (tail : List RawLine)
    → SymsFrom parts k (map (λ (r : FunRow). r.name) fs) (map (λ (r : FunRow). r.weight) fs) (fun_syms text v fs tail) → FunsAt parts text v k fs tail
funs_at parts text v k [] tail h = tt
funs_at parts text v k (r ∷ fs) tail h =
    let a = next_sym parts k r.name (map (λ (r : FunRow). r.name) fs) r.weight (map (λ (r : FunRow). r.weight) fs)
    (fun_sym text r (rules_then r.rules (funs_then v fs tail))) (fun_syms text v fs tail) h in
    (a.one, funs_at parts text v (suc k) fs tail a.other)

pub record Placed (text : Whole) (parts : SigParts) (l : Layout) : Type 0 where
  pub cons : SortsAt parts text.sorts 0 0 l.sorts
  pub funs : FunsAt parts text l.version (past_all 0 l.sorts) l.funs (tail_lines l)

pub placed : (text : Whole) (parts : SigParts) (l : Layout) → States text parts l → Placed text parts l
placed text parts l s =
    let a = sorts_at parts text.sorts 0 0 l.sorts (map (λ (r : FunRow). r.name) l.funs) (map (λ (r : FunRow). r.weight) l.funs) (fun_syms text l.version l.funs (tail_lines l))
    (record { names_are = sym s.declares.names ∙ s.names; weights_are = s.weights; symbols_are = s.symbols }) in
    record { cons = a.one; funs = funs_at parts text l.version (past_all 0 l.sorts) l.funs (tail_lines l) a.other }

-- Sorts

pub record SortAt (parts : SigParts) (m : ℕ) (s : SortRow) : Type 0 where
  pub name_is : sort_name parts (record { 0 = m }) ≡ s.name
  pub vars_is : vars_at parts (record { 0 = m }) ≡ s.vars
  pub width_is : width_at parts (record { 0 = m }) ≡ s.width
  pub within : m < length parts.sort_names

abbrev pub RowsAt : SigParts → ℕ → List SortRow → Type 0
RowsAt parts m [] = Unit {0}
RowsAt parts m (s ∷ ss) = SortAt parts m s × RowsAt parts (suc m) ss

rows_at : (parts : SigParts) (m : ℕ) (ss : List SortRow) → drop m parts.sort_names ≡ map (λ (s : SortRow). s.name) ss
    → drop m parts.settings.vars ≡ map (λ (s : SortRow). s.vars) ss → drop m parts.settings.width ≡ map (λ (s : SortRow). s.width) ss → RowsAt parts m ss
rows_at parts m [] e v w = tt
rows_at parts m (s ∷ ss) e v w =
    let a = dropped parts.sort_names m s.name (map (λ (s : SortRow). s.name) ss) e in
    let b = dropped parts.settings.vars m s.vars (map (λ (s : SortRow). s.vars) ss) v in
    let c = dropped parts.settings.width m s.width (map (λ (s : SortRow). s.width) ss) w in (
      record {
        name_is = get_or_from_slice_get parts.sort_names m s.name [] a.0;
        vars_is = get_or_from_slice_get parts.settings.vars m s.vars 0 b.0;
        width_is = get_or_from_slice_get parts.settings.width m s.width 1 c.0;
        within = slice_get_within parts.sort_names m s.name a.0;
      },
      rows_at parts (suc m) ss a.1 b.1 c.1,
    )

pub rows_placed : (text : Whole) (parts : SigParts) (l : Layout) → States text parts l → RowsAt parts 0 l.sorts
rows_placed text parts l s = rows_at parts 0 l.sorts (sym s.declares.sorts ∙ s.sorts) s.vars s.width

-- Names of sorts

pub known_sort : (text : Whole) (parts : SigParts) → Declares text parts → (name : List ℕ) → IsKnown text name
    → IsDeclared parts (sort_id text.sorts name) × (sort_name parts (sort_id text.sorts name) ≡ name)
known_sort text parts declares name h = by (number_of text.sorts name) refl h
  where
    by : (o : Option ℕ) → number_of text.sorts name ≡ o → is_some o ≡ true → IsDeclared parts (sort_id text.sorts name) × (sort_name parts (sort_id text.sorts name) ≡ name)
    by None k e = absurd (true≢false (sym e))
    by (Some n) k e =
        let is : sort_id text.sorts name ≡ record { 0 = n } = sort_id_is text.sorts name n k in
        let within : n < length parts.sort_names = subst (λ l. n < length l) declares.sorts (slice_get_within text.sorts n name (stands_at text.sorts name n k)) in
        let declared : IsDeclared parts (record { 0 = n }) = search (rules, within) in
        (subst (IsDeclared parts) (sym is) declared, ap (sort_name parts) is ∙ sort_named text parts declares name n k)

pub known_args : (text : Whole) (parts : SigParts) → Declares text parts → (names : List (List ℕ)) → Each (IsKnown text) names
    → Each (IsDeclared parts) (map (sort_id text.sorts) names)
known_args text parts declares [] h = tt
known_args text parts declares (n ∷ names) h = ((known_sort text parts declares n h.0).0, known_args text parts declares names h.1)

pub known_named : (text : Whole) (parts : SigParts) → Declares text parts → (names : List (List ℕ)) → Each (IsKnown text) names
    → map (sort_name parts) (map (sort_id text.sorts) names) ≡ names
known_named text parts declares [] h = refl
known_named text parts declares (n ∷ names) h = ap₂ ◌∷◌ (known_sort text parts declares n h.0).1 (known_named text parts declares names h.1)

-- Constructors of a sort

other_block : (sorts : List (List ℕ)) (m n k : ℕ) (cs : List ConRow) (rest : List Sym) → m ≢ n
    → constructors_from k (map (con_sym sorts m) cs ++ rest) (record { 0 = n }) ≡ constructors_from (past k cs) rest (record { 0 = n })
other_block sorts m n k [] rest apart = refl
other_block sorts m n k (c ∷ cs) rest apart =
    ap (λ t. if t then record { 0 = k } ∷ constructors_from (k + 1) (map (con_sym sorts m) cs ++ rest) (record { 0 = n })
    else constructors_from (k + 1) (map (con_sym sorts m) cs ++ rest) (record { 0 = n })) (ne_eqb m n apart)
    ∙ ap (λ j. constructors_from j (map (con_sym sorts m) cs ++ rest) (record { 0 = n })) (add-one k) ∙ other_block sorts m n (suc k) cs rest apart

own_block : (sorts : List (List ℕ)) (m k : ℕ) (cs : List ConRow) (rest : List Sym)
    → constructors_from k (map (con_sym sorts m) cs ++ rest) (record { 0 = m }) ≡ nums sym_no k cs ++ constructors_from (past k cs) rest (record { 0 = m })
own_block sorts m k [] rest = refl
own_block sorts m k (c ∷ cs) rest =
    ap (λ t. if t then record { 0 = k } ∷ constructors_from (k + 1) (map (con_sym sorts m) cs ++ rest) (record { 0 = m })
    else constructors_from (k + 1) (map (con_sym sorts m) cs ++ rest) (record { 0 = m })) (eq-eqb m m refl)
    ∙ ap (λ j. sym_no k ∷ constructors_from j (map (con_sym sorts m) cs ++ rest) (record { 0 = m })) (add-one k) ∙ ap (λ z. sym_no k ∷ z) (own_block sorts m (suc k) cs rest)

no_funs : (text : Whole) (v : Version) (k : ℕ) (fs : List FunRow) (tail : List RawLine) (s : SortId) → constructors_from k (fun_syms text v fs tail) s ≡ []
no_funs text v k [] tail s = refl
no_funs text v k (r ∷ fs) tail s = no_funs text v (k + 1) fs tail s

later_blocks : (text : Whole) (v : Version) (fs : List FunRow) (tail : List RawLine) (n m k : ℕ) (ss : List SortRow) → n < m
    → constructors_from k (con_syms text.sorts m ss ++ fun_syms text v fs tail) (record { 0 = n }) ≡ []
later_blocks text v fs tail n m k [] l = no_funs text v k fs tail (record { 0 = n })
later_blocks text v fs tail n m k (s ∷ ss) l =
    let next : n < suc m = omega arith in
    ap (λ z. constructors_from k z (record { 0 = n })) (append_assoc (map (con_sym text.sorts m) s.cons) (con_syms text.sorts (suc m) ss) (fun_syms text v fs tail))
    ∙ other_block text.sorts m n k s.cons (con_syms text.sorts (suc m) ss ++ fun_syms text v fs tail) (λ e. let w : n < n = subst (λ z. n < z) e l in absurd (omega arith))
    ∙ later_blocks text v fs tail n (suc m) (past k s.cons) ss next

abbrev pub BlocksAt : SigParts → ℕ → ℕ → List SortRow → Type 0
BlocksAt parts m k [] = Unit {0}
BlocksAt parts m k (s ∷ ss) = (constructors parts (record { 0 = m }) ≡ nums sym_no k s.cons) × BlocksAt parts (suc m) (past k s.cons) ss

blocks_at : (text : Whole) (parts : SigParts) (v : Version) (fs : List FunRow) (tail : List RawLine) (m k : ℕ) (ss : List SortRow)
    → ((n : ℕ) → m ≤ n → constructors parts (record { 0 = n }) ≡ constructors_from k (con_syms text.sorts m ss ++ fun_syms text v fs tail) (record { 0 = n }))
    → BlocksAt parts m k ss
blocks_at text parts v fs tail m k [] h = tt
blocks_at text parts v fs tail m k (s ∷ ss) h =
    let F = fun_syms text v fs tail in
    let split : (n : ℕ) → constructors_from k ((map (con_sym text.sorts m) s.cons ++ con_syms text.sorts (suc m) ss) ++ F) (record { 0 = n })
    ≡ constructors_from k (map (con_sym text.sorts m) s.cons ++ (con_syms text.sorts (suc m) ss ++ F)) (record { 0 = n }) =
    λ n. ap (λ z. constructors_from k z (record { 0 = n })) (append_assoc (map (con_sym text.sorts m) s.cons) (con_syms text.sorts (suc m) ss) F) in (
      h m (omega arith) ∙ split m ∙ own_block text.sorts m k s.cons (con_syms text.sorts (suc m) ss ++ F)
          ∙ ap (λ z. nums sym_no k s.cons ++ z) (later_blocks text v fs tail m (suc m) (past k s.cons) ss (omega arith)) ∙ append-nil (nums sym_no k s.cons),
      blocks_at text parts v fs tail (suc m) (past k s.cons) ss
          (λ n l. let low : m ≤ n = omega arith in h n low ∙ split n
          ∙ other_block text.sorts m n k s.cons (con_syms text.sorts (suc m) ss ++ F) (λ e. let w : suc m ≤ m = subst (λ z. suc m ≤ z) (sym e) l in absurd (omega arith))),
    )

pub blocks_placed : (text : Whole) (parts : SigParts) (l : Layout) → States text parts l → BlocksAt parts 0 0 l.sorts
blocks_placed text parts l s = blocks_at text parts l.version l.funs (tail_lines l) 0 0 l.sorts (λ n low. ap (λ z. constructors_from 0 z (record { 0 = n })) s.symbols)

-- The lines of sorts and constructors again

con_again : (text : Whole) (parts : SigParts) (v : Version) (m k : ℕ) (c : ConRow) → Declares text parts → SymAt parts k c.name c.weight (con_sym text.sorts m c)
    → Each (IsKnown text) c.args → typed.con_line v parts (record { 0 = k }) ≡ con_line v c
con_again text parts v m k c declares at known = by v
  where
    args : arg_names parts (record { 0 = k }) ≡ c.args
    args = ap (λ o. map (sort_name parts) (unwrap_or (option_map args_of o) [])) at.symbol_is ∙ known_named text parts declares c.args known

    by : (v : Version) → typed.con_line v parts (record { 0 = k }) ≡ con_line v c
    by (first vars width) = ap₂ line.ConLine at.name_is args
    by second = ap₂ line.ConLine at.name_is args
    by third = ap (λ w. line.ConLine3 w (symbol_name parts (record { 0 = k })) (arg_names parts (record { 0 = k }))) at.weight_is
        ∙ ap₂ (λ n a. line.ConLine3 c.weight n a) at.name_is args

cons_again : (text : Whole) (parts : SigParts) (v : Version) (seen : Seen) (m k : ℕ) (cs : List ConRow) (rest : List RawLine) → Declares text parts
    → ConsAt parts text.sorts m k cs → ConsGood text seen cs → cons_then v cs rest ≡ map (typed.con_line v parts) (nums sym_no k cs) ++ rest
cons_again text parts v seen m k [] rest declares at good = refl
cons_again text parts v seen m k (c ∷ cs) rest declares at good =
    ap₂ ◌∷◌ (sym (con_again text parts v m k c declares at.0 good.0.args)) (cons_again text parts v (after_symbol seen) m (suc k) cs rest declares at.1 good.1)

sort_again : (parts : SigParts) (v : Version) (m : ℕ) (s : SortRow) → SortAt parts m s → typed.sort_line v parts (record { 0 = m }) ≡ sort_line v s
sort_again parts (first vars width) m s at = ap line.SortLine at.name_is
sort_again parts second m s at = ap (λ n. line.SortLine2 n (vars_at parts (record { 0 = m })) (width_at parts (record { 0 = m }))) at.name_is
    ∙ ap₂ (λ a w. line.SortLine2 s.name a w) at.vars_is at.width_is
sort_again parts third m s at = ap (λ n. line.SortLine2 n (vars_at parts (record { 0 = m })) (width_at parts (record { 0 = m }))) at.name_is
    ∙ ap₂ (λ a w. line.SortLine2 s.name a w) at.vars_is at.width_is

pub sorts_again : (text : Whole) (parts : SigParts) (v : Version) (seen : Seen) (m k : ℕ) (ss : List SortRow) (rest : List RawLine) → Declares text parts
    → RowsAt parts m ss → SortsAt parts text.sorts m k ss → BlocksAt parts m k ss → SortsGood text seen ss
    → sorts_then v ss rest ≡ joined (map (sort_block v parts) (nums sort_no m ss)) ++ rest
sorts_again text parts v seen m k [] rest declares rows at blocks good = refl
sorts_again text parts v seen m k (s ∷ ss) rest declares rows at blocks good =
    ap₂ ◌∷◌ (sym (sort_again parts v m s rows.0))
    (cons_again text parts v (after_sort seen) m k s.cons (sorts_then v ss rest) declares at.0 good.1
    ∙ ap (λ z. map (typed.con_line v parts) z ++ sorts_then v ss rest) (sym blocks.0)
    ∙ ap (λ z. map (typed.con_line v parts) (constructors parts (record { 0 = m })) ++ z)
    (sorts_again text parts v (cons_seen (after_sort seen) s.cons) (suc m) (past k s.cons) ss rest declares rows.1 at.1 blocks.1 good.2)
    ∙ sym (append_assoc (map (typed.con_line v parts) (constructors parts (record { 0 = m }))) (joined (map (sort_block v parts) (nums sort_no (suc m) ss))) rest))
