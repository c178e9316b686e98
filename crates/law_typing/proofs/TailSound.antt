-- Explored names, background and pools without faults are well-formed, and written so.
use Rattle.std.proofs.Common.{◌≡◌, ℕ, suc, ◌+◌, ◌<◌, ◌≤◌, List, [], ◌∷◌, ◌++◌, map, length, true, true≢false, not, is_some, Option, Some, None, slice_get, rules, arith, add-one, append_assoc, refl, sym, ap, ap₂, ◌∙◌, subst}
use Rattle.std.proofs.lemmas.List.{length-map}
use Rattle.std.proofs.lemmas.Option.{slice_get_within, get_or_from_slice_get}
use Rattle.law_sig.specs.Lists.{In, Each, AreDistinct}
use Rattle.law_sig.specs.Trees.{node_count, depth}
use Rattle.law_sig.specs.Signature.{width_at}
use Rattle.law_sig.specs.WellFormed.{IsWritable, IsBackground, IsValueOf, IsPoolFrom, IsPool}
use Rattle.law_sig.specs.declared.tree.SortId.{SortId}
use Rattle.law_sig.specs.declared.tree.SymId.{SymId}
use Rattle.law_sig.specs.declared.parts.SigParts.{SigParts}
use Rattle.law_laws.proofs.ListFacts.{of_each}
use Rattle.law_lines.specs.declared.raw.RawTerm.{RawTerm}
use Rattle.law_lines.specs.declared.raw.RawLine.{RawLine}
use Rattle.law_lines.specs.declared.raw.RawLine.TheVariants as line
use Rattle.law_typing.specs.Names.{number_of}
use Rattle.law_typing.specs.Naming.{symbol_name, named_term}
use Rattle.law_typing.specs.TermFaults.{fault_if, term_fault}
use Rattle.law_typing.specs.LineFaults.{explored_fault, explored_faults, side_scope, value_scope, sides_mismatch, each_value_fault}
use Rattle.law_typing.specs.Stated.{symbol_id, stated_tree}
use Rattle.law_typing.specs.Typed.{background_line, values_lines, pools_lines}
use Rattle.law_typing.specs.declared.errors.TypeKind.TheVariants as kind
use Rattle.law_typing.specs.declared.whole.Whole.{Whole}
use Rattle.law_typing.proofs.NumberFacts.{stands_at}
use Rattle.law_typing.proofs.SideFacts.{Declares}
use Rattle.law_typing.proofs.TermSound.{fault_none, neither, not_false, wanted_is, stands, sort_named, symbol_named, symbol_id_is}
use Rattle.law_typing.proofs.Laid.{SidesRow, ValuesRow, background_then, values_then, pools_then}
use Rattle.law_typing.proofs.Told.{stated_sides, stated_row}
use Rattle.law_typing.proofs.Passed.{SidesGood, RowsGood, PoolsGood}
use Rattle.law_typing.proofs.Spelled.{HasSize, SidesSpelled, RowSpelled, tree_writable}
use Rattle.law_typing.proofs.Counted.{NewFrom, new_distinct, map_distinct}

-- Explored names

pub record NameIs (text : Whole) (parts : SigParts) (name : List ℕ) : Type 0 where
  pub within : (symbol_id text name).0 < length parts.symbol_names
  pub named : symbol_name parts (symbol_id text name) ≡ name

name_is : (text : Whole) (parts : SigParts) → Declares text parts → (name : List ℕ) → is_some (number_of text.names name) ≡ true → NameIs text parts name
name_is text parts declares name e = by (number_of text.names name) refl e
  where
    by : (o : Option ℕ) → number_of text.names name ≡ o → is_some o ≡ true → NameIs text parts name
    by None k h = absurd (true≢false (sym h))
    by (Some n) k h =
        let is : symbol_id text name ≡ record { 0 = n } = symbol_id_is text name n k in
        let l : n < length parts.symbol_names = subst (λ z. n < length z) declares.names (slice_get_within text.names n name (stands_at text.names name n k)) in
        record { within = subst (λ (z : SymId). z.0 < length parts.symbol_names) (sym is) l; named = ap (symbol_name parts) is ∙ symbol_named text parts declares name n k }

pub record ExploredOk (text : Whole) (parts : SigParts) (before names : List (List ℕ)) : Type 0 where
  pub each : Each (NameIs text parts) names
  pub new : NewFrom before names

pub explored_ok : (text : Whole) (parts : SigParts) → Declares text parts → (before names : List (List ℕ)) → explored_faults text before names ≡ None
    → ExploredOk text parts before names
explored_ok text parts declares before [] e = record { each = tt; new = tt }
explored_ok text parts declares before (n ∷ names) e =
    let a = neither (explored_fault text before n) _ e in
    let b = neither (fault_if (not (is_some (number_of text.names n))) kind.UnknownName) _ a.0 in
    let r = explored_ok text parts declares (before ++ n ∷ []) names a.1 in
    record {
      each = (name_is text parts declares n (not_false _ (fault_none _ kind.UnknownName b.0)), r.each);
      new = (fault_none _ kind.NameTwice b.1, r.new);
    }

pub ids_within : (text : Whole) (parts : SigParts) (names : List (List ℕ)) → Each (NameIs text parts) names
    → Each (λ (f : SymId). f.0 < length parts.symbol_names) (map (symbol_id text) names)
ids_within text parts [] h = tt
ids_within text parts (n ∷ names) h = (h.0.within, ids_within text parts names h.1)

pub ids_named : (text : Whole) (parts : SigParts) (names : List (List ℕ)) → Each (NameIs text parts) names → map (symbol_name parts) (map (symbol_id text) names) ≡ names
ids_named text parts [] h = refl
ids_named text parts (n ∷ names) h = ap₂ ◌∷◌ h.0.named (ids_named text parts names h.1)

pub ids_distinct : (text : Whole) (parts : SigParts) (names : List (List ℕ)) → ExploredOk text parts [] names → AreDistinct (map (symbol_id text) names)
ids_distinct text parts names ok = map_distinct (symbol_id text) names (new_distinct [] names ok.new) same
  where
    same : (x y : List ℕ) → In x names → In y names → symbol_id text x ≡ symbol_id text y → x ≡ y
    same x y at_x at_y e =
        let a = of_each (NameIs text parts) at_x ok.each in
        let b = of_each (NameIs text parts) at_y ok.each in
        sym a.named ∙ ap (symbol_name parts) e ∙ b.named

-- Background

pub record SidesOk (text : Whole) (parts : SigParts) (e : SidesRow) : Type 0 where
  pub is : IsBackground parts (stated_sides text e)
  pub written : background_line parts (stated_sides text e) ≡ line.Background e.left e.right

sides_ok : (text : Whole) (parts : SigParts) → Declares text parts → (e : SidesRow) → SidesGood text e → SidesSpelled e → SidesOk text parts e
sides_ok text parts declares e good spelled =
    let a = neither (term_fault text side_scope None e.left) _ good in
    let b = neither (term_fault text side_scope None e.right) _ a.1 in
    let l = stands text parts side_scope declares refl refl e.left None a.0 in
    let r = stands text parts side_scope declares refl refl e.right None b.0 in
    let same : l.sort ≡ r.sort = wanted_is l.sort r.sort (sym (ap₂ sides_mismatch l.root r.root) ∙ b.1) in
    record {
      is = record {
        sort = l.sort;
        left_side = record { sorted = l.sorted; variables = l.below; written = tree_writable parts (stated_tree text e.left) e.left l.named spelled.left };
        right_side = record { sorted = r.sorted ∙ ap Some (sym same); variables = r.below; written = tree_writable parts (stated_tree text e.right) e.right r.named spelled.right };
      };
      written = ap₂ line.Background l.named r.named;
    }

pub record BackgroundOk (text : Whole) (parts : SigParts) (es : List SidesRow) : Type 0 where
  pub each : Each (IsBackground parts) (map (stated_sides text) es)
  pub written : (rest : List RawLine) → background_then es rest ≡ map (background_line parts) (map (stated_sides text) es) ++ rest

pub background_ok : (text : Whole) (parts : SigParts) → Declares text parts → (es : List SidesRow) → Each (SidesGood text) es → Each SidesSpelled es → BackgroundOk text parts es
background_ok text parts declares [] good spelled = record { each = tt; written = λ rest. refl }
background_ok text parts declares (e ∷ es) good spelled =
    let a = sides_ok text parts declares e good.0 spelled.0 in
    let r = background_ok text parts declares es good.1 spelled.1 in
    record { each = (a.is, r.each); written = λ rest. ap₂ ◌∷◌ (sym a.written) (r.written rest) }

-- Pools

pub record ValuesOk (text : Whole) (parts : SigParts) (sort : SortId) (values : List RawTerm) : Type 0 where
  pub each : Each (λ v. IsValueOf parts sort v × IsWritable (node_count v) (depth v)) (map (stated_tree text) values)
  pub written : map (named_term parts) (map (stated_tree text) values) ≡ values

values_ok : (text : Whole) (parts : SigParts) → Declares text parts → (sort : SortId) (values : List RawTerm) → each_value_fault text sort values ≡ None → Each HasSize values
    → ValuesOk text parts sort values
values_ok text parts declares sort [] e sizes = record { each = tt; written = refl }
values_ok text parts declares sort (v ∷ values) e sizes =
    let a = neither (term_fault text value_scope (Some sort) v) _ e in
    let s = stands text parts value_scope declares refl refl v (Some sort) a.0 in
    let same : sort ≡ s.sort = wanted_is sort s.sort s.wants in
    let r = values_ok text parts declares sort values a.1 sizes.1 in
    record {
      each = ((record { made = s.valued refl; sorted = s.sorted ∙ ap Some (sym same) }, tree_writable parts (stated_tree text v) v s.named sizes.0), r.each);
      written = ap₂ ◌∷◌ s.named r.written;
    }

pub record RowsOk (text : Whole) (parts : SigParts) (k : ℕ) (vs : List ValuesRow) : Type 0 where
  pub each : IsPoolFrom parts k (map (stated_row text) vs)
  pub written : (rest : List RawLine) → values_then vs rest ≡ values_lines parts k (map (stated_row text) vs) ++ rest

rows_ok : (text : Whole) (parts : SigParts) → Declares text parts → text.widths ≡ parts.settings.width → (k : ℕ) (vs : List ValuesRow) → RowsGood text k vs → Each RowSpelled vs
    → RowsOk text parts k vs
rows_ok text parts declares widths k [] good spelled = record { each = tt; written = λ rest. refl }
rows_ok text parts declares widths k (v ∷ vs) good spelled =
    let g = good.0 in
    let a = values_ok text parts declares (record { 0 = k }) v.values g.each spelled.0 in
    let r = rows_ok text parts declares widths (suc k) vs (subst (λ n. RowsGood text n vs) (add-one k) good.1) spelled.1 in
    let width : width_at parts (record { 0 = k }) ≡ length v.values =
    get_or_from_slice_get parts.settings.width k (length v.values) 1 (ap (λ l. slice_get l k) (sym widths) ∙ g.width) in
    record {
      each = (record { count = length-map v.values (stated_tree text) ∙ sym width; each = a.each }, r.each);
      written = λ rest. ap₂ ◌∷◌ (sym (ap₂ line.Values (sort_named text parts declares v.sort k g.sort) a.written)) (r.written rest);
    }

pub record PoolsOk (text : Whole) (parts : SigParts) (ps : List (List ValuesRow)) : Type 0 where
  pub each : Each (IsPool parts) (map (map (stated_row text)) ps)
  pub written : (rest : List RawLine) → pools_then ps rest ≡ pools_lines parts (map (map (stated_row text)) ps) ++ rest

pub pools_ok : (text : Whole) (parts : SigParts) → Declares text parts → text.widths ≡ parts.settings.width → (n : ℕ) (ps : List (List ValuesRow)) → PoolsGood text n ps
    → Each (Each RowSpelled) ps → PoolsOk text parts ps
pools_ok text parts declares widths n [] good spelled = record { each = tt; written = λ rest. refl }
pools_ok text parts declares widths n (p ∷ ps) good spelled =
    let a = rows_ok text parts declares widths 0 p good.0.rows spelled.0 in
    let r = pools_ok text parts declares widths (n + 1) ps good.1 spelled.1 in
    record {
      each = (record { sorts = length-map p (stated_row text) ∙ good.0.count ∙ ap length declares.sorts; values = a.each }, r.each);
      written = λ rest. ap (λ z. line.Pool ∷ z) (a.written (pools_then ps rest)
          ∙ ap (λ z. values_lines parts 0 (map (stated_row text) p) ++ z) (r.written rest)
          ∙ sym (append_assoc (values_lines parts 0 (map (stated_row text) p)) (pools_lines parts (map (map (stated_row text)) ps)) rest));
    }

pub pools_few : (text : Whole) (n : ℕ) (ps : List (List ValuesRow)) → PoolsGood text n ps → n ≤ 16 → n + length ps ≤ 16
pools_few text n [] good l = omega arith
pools_few text n (p ∷ ps) good l =
    let low = good.0.low in
    let below : n < 16 = search (rules, low) in
    let next : n + 1 ≤ 16 = omega arith in
    let r = pools_few text (n + 1) ps good.1 next in omega arith
