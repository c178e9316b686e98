-- What the code makes of lists: one item changed at its place, and the term of a row.
use Rattle.std.proofs.Common.{◌≡◌, ℕ, zero, suc, ◌+◌, ◌-◌, ◌<◌, ◌⊎◌, inl, inr, List, [], ◌∷◌, ◌++◌, length, set, Some, slice_get, slice_set, slice_index_or, refl, sym, ap, ap₂, ◌∙◌, subst, arith}
use Rattle.std.specs.Prelude.{Vec}
use Rattle.std.specs.declared.alloc.Global.{Global}
use Rattle.std.proofs.lemmas.List.{map-set, get_or-map, length-map, length_push, get_or_append_left, get_or_at, get_or_past}
use denote.Bor.{Bor}
use Rattle.law_sig.specs.Lists.{Each}
use Rattle.law_sig.specs.declared.tree.SortId.{SortId}
use Rattle.law_sig.specs.declared.tree.Tree.{Tree}
use Rattle.law_sig.specs.declared.tree.Tree.TheVariants.{App}
use Rattle.law_bank.specs.declared.node.Node.{Node}
use Rattle.law_bank.specs.Terms.{trees_of}
use Rattle.law_bank.specs.Bank.{Terms, IsOf, AllOf}
use Rattle.law_listing.specs.declared.pick.Pick.{Pick}
use Rattle.law_listing.specs.Picks.{IsRow}
use Rattle.law_listing.proofs.PickFacts.{compared}
use Rattle.law_schema.specs.declared.rules.Rule.{Rule}
use Rattle.law_schema.specs.declared.rules.Rules.{Rules}
use Rattle.law_schema.specs.declared.stock.Entry.{Entry}
use Rattle.law_schema.specs.declared.stock.Spread.{Spread}
use Rattle.law_schema.specs.declared.places.Application.{Application}
use Rattle.law_schema.specs.Columns.{Columns, columns_of, bucket, AreFresh, AreBare, entries_of, schemas_in, filed}
use Rattle.law_schema.specs.Spreads.{live_row}
use Rattle.law_schema.specs.Places.{AllFiled, IsApplied}
use Rattle.law_schema.specs.Inside.{with_live}
use Rattle.law_schema.proofs.ColumnFacts.{entries_are, schemas_are, entries_filed}
use Rattle.law_schema.proofs.Housing.{maps_append}
use Rattle.law_schema.proofs.Items.{present}
use Rattle.law_schema.proofs.Sounding.{with_live_is, housing}

-- One entry more in its bucket

pub filed_is : (vecs : List (Vec (List Entry) Global)) (s : SortId) (w : ℕ) (e : Entry) (v new : Vec (List Entry) Global) → s.0 < length (columns_of vecs) → v ≡ slice_index_or vecs s.0 v
    → new.items ≡ slice_set v.items w (slice_index_or v.items w [] ++ e ∷ []) → columns_of (slice_set vecs s.0 new) ≡ filed (columns_of vecs) s w e
filed_is vecs s w e v new less read made =
    map-set (λ (x : Vec (List Entry) Global). x.items) vecs s.0 new
    ∙ ap (set (columns_of vecs) s.0) (made ∙ ap (λ l. slice_set l w (slice_index_or l w [] ++ e ∷ [])) items)
  where
    items : v.items ≡ slice_index_or (columns_of vecs) s.0 []
    items = ap (λ (x : Vec (List Entry) Global). x.items) read ∙ sym (get_or-map (λ (x : Vec (List Entry) Global). x.items) vecs s.0 v [] (subst (λ n. s.0 < n) (length-map vecs (λ (x : Vec (List Entry) Global). x.items)) less))

pub kept_is : (vecs : List (Vec (List Entry) Global)) (n : ℕ) (v new : Vec (List Entry) Global) → v ≡ slice_index_or vecs n v → new.items ≡ v.items
    → columns_of (slice_set vecs n new) ≡ columns_of vecs
kept_is [] n v new read made = refl
kept_is (x ∷ vecs) zero v new read made = ap (λ l. l ∷ columns_of vecs) (made ∙ ap (λ (z : Vec (List Entry) Global). z.items) read)
kept_is (x ∷ vecs) (suc n) v new read made = ap (λ l. x.items ∷ l) (kept_is vecs n v new read made)

-- One sort more

pub fresh_more : (size n : ℕ) (vecs after : List (Vec (List Entry) Global)) (v : Vec (List Entry) Global) → AreFresh n size (columns_of vecs) → length v.items ≡ size + 1 → AreBare v.items → after ≡ vecs ++ v ∷ []
    → AreFresh (n + 1) size (columns_of after)
fresh_more size n vecs after v fresh long bare e = subst (AreFresh (n + 1) size) (sym (ap columns_of e ∙ joined)) (record {
  long = length_push (columns_of vecs) v.items ∙ ap (λ k. k + 1) fresh.long;
  places = λ s less. place s less (compared s.0 n);
  empty = λ s k. empty s k (compared s.0 n);
})
  where
    joined : columns_of (vecs ++ v ∷ []) ≡ columns_of vecs ++ v.items ∷ []
    joined = maps_append (λ (x : Vec (List Entry) Global). x.items) vecs (v ∷ [])

    old : (s : SortId) → s.0 < n → slice_index_or (columns_of vecs ++ v.items ∷ []) s.0 [] ≡ slice_index_or (columns_of vecs) s.0 []
    old s less = get_or_append_left (columns_of vecs) (v.items ∷ []) [] s.0 (let h = fresh.long in omega arith)

    own : (s : SortId) → s.0 ≡ n → slice_index_or (columns_of vecs ++ v.items ∷ []) s.0 [] ≡ v.items
    own s e = get_or_at (columns_of vecs) v.items [] [] s.0 (fresh.long ∙ sym e)

    past : (s : SortId) → n < s.0 → slice_index_or (columns_of vecs ++ v.items ∷ []) s.0 [] ≡ []
    past s less = get_or_past (columns_of vecs ++ v.items ∷ []) s.0 [] (let h = fresh.long in let k = length_push (columns_of vecs) v.items in omega arith)

    place : (s : SortId) → s.0 < n + 1 → (s.0 ≡ n) ⊎ ((s.0 < n) ⊎ (n < s.0)) → length (slice_index_or (columns_of vecs ++ v.items ∷ []) s.0 []) ≡ size + 1
    place s less (inl h) = ap length (own s h) ∙ long
    place s less (inr (inl h)) = ap length (old s h) ∙ fresh.places s h
    place s less (inr (inr h)) = absurd (omega arith)

    empty : (s : SortId) (k : ℕ) → (s.0 ≡ n) ⊎ ((s.0 < n) ⊎ (n < s.0)) → bucket (columns_of vecs ++ v.items ∷ []) s k ≡ []
    empty s k (inl h) = ap (λ l. slice_index_or l k []) (own s h) ∙ bare k
    empty s k (inr (inl h)) = ap (λ l. slice_index_or l k []) (old s h) ∙ fresh.empty s k
    empty s k (inr (inr h)) = ap (λ l. slice_index_or l k []) (past s h)

-- One live term more of the last schema

abbrev spread : Bor Node → List (Bor Node) → Spread
spread b lives = record { schema = b; lives = lives }

whole : (z w : Spread) → z.schema ≡ w.schema → z.lives ≡ w.lives → z ≡ w
whole z w p q = ap₂ spread p q

pub housed_is : (xs rest after : List Spread) (b : Bor Node) (x new : Spread) → xs ≡ rest ++ x ∷ [] → after ≡ rest ++ new ∷ [] → new.schema ≡ x.schema → new.lives ≡ x.lives ++ b ∷ [] → after ≡ with_live xs b
housed_is xs rest after b x new xs_is after_is schema lives =
    after_is ∙ ap (λ z. rest ++ z ∷ []) (whole new (housing x b) schema lives) ∙ sym (ap (λ l. with_live l b) xs_is ∙ with_live_is rest x b)

pub unhoused_is : (xs rest after : List Spread) (x new : Spread) → xs ≡ rest ++ x ∷ [] → after ≡ rest ++ new ∷ [] → new.schema ≡ x.schema → new.lives ≡ x.lives → after ≡ xs
unhoused_is xs rest after x new xs_is after_is schema lives = after_is ∙ ap (λ z. rest ++ z ∷ []) (whole new x schema lives) ∙ sym xs_is

-- Terms of rows

schemas_held : (bank : Terms) (es : List Entry) → Each (λ (e : Entry). IsOf bank e.schema.now) es → AllOf bank (schemas_in es)
schemas_held bank [] h = tt
schemas_held bank (e ∷ es) h = (h.0, schemas_held bank es h.1)

pub picked_held : (bank : Terms) (columns : Columns) → AllFiled bank columns → (ss : List SortId) (row : List Pick) → AllOf bank (schemas_in (entries_of columns ss row))
picked_held bank columns all ss row =
    schemas_held bank (entries_of columns ss row) (entries_filed (λ (e : Entry). IsOf bank e.schema.now) columns (λ e h. all h.sort h.weight e h.at) ss row)

-- what the code hands on
pub picked_is : (columns : Columns) (ss ss_read : List SortId) (row row_read : List Pick) (new found read : List Entry) (args terms : List (Bor Node)) → ss_read ≡ ss → row_read ≡ row → new ≡ []
    → found ≡ new ++ entries_of columns ss_read row_read → read ≡ found → args ≡ schemas_in read → terms ≡ args → terms ≡ schemas_in (entries_of columns ss row)
picked_is columns ss ss_read row row_read new found read args terms ss_is row_is new_is found_is read_is args_are terms_are =
    terms_are ∙ args_are ∙ ap schemas_in (read_is ∙ found_is ∙ ap (λ l. l ++ entries_of columns ss_read row_read) new_is ∙ ap₂ (entries_of columns) ss_is row_is)

pub lives_are : (spreads : List Spread) (numbers numbers_read : List ℕ) (row row_read : List Pick) (new found terms : List (Bor Node)) → numbers_read ≡ numbers → row_read ≡ row → new ≡ []
    → found ≡ new ++ live_row spreads numbers_read row_read → terms ≡ found → terms ≡ live_row spreads numbers row
lives_are spreads numbers numbers_read row row_read new found terms numbers_are row_is new_is found_is terms_are =
    terms_are ∙ found_is ∙ ap (λ l. l ++ live_row spreads numbers_read row_read) new_is ∙ ap₂ (live_row spreads) numbers_are row_is

-- the rule that the code reads is the one at the place
pub rule_read : (xs : List Rule) (n : ℕ) (r s : Rule) → slice_get xs n ≡ Some s → r ≡ slice_index_or xs n r → s ≡ r
rule_read xs n r s got read = sym (read ∙ present xs n r s (sym got))

pub applied_tree : (rules : Rules) (columns : Columns) (a : Application) (row : List Pick) (t : Tree) (r : Rule) → r ≡ slice_index_or rules.symbols a.rule r → IsApplied rules columns a row t
    → App r.symbol (trees_of (schemas_in (entries_of columns r.args row))) ≡ t
applied_tree rules columns a row t r read is =
    let (args, picked, e) = is.term_is in
    let same = rule_read rules.symbols a.rule r is.rule is.rule_is read in
    subst (λ (z : Rule). App z.symbol (trees_of (schemas_in (entries_of columns z.args row))) ≡ t) same
    (ap (App is.rule.symbol) (schemas_are (entries_of columns is.rule.args row) ∙ entries_are columns a.weight is.rule.args row args picked) ∙ sym e)

-- Rows

pub row_long : (choices : List (List ℕ)) (weight : ℕ) (row : List Pick) → IsRow choices weight row → length row ≡ length choices
row_long [] weight [] is = refl
row_long [] weight (p ∷ ps) is = absurd is
row_long (c ∷ choices) weight [] is = absurd is
row_long (c ∷ choices) weight (p ∷ ps) is = ap suc (row_long choices (weight - p.weight) ps is.2)
