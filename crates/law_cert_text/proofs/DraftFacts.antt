-- One more line of a certificate: what was read grows by it, and stays what the grammar spells.
use Rattle.std.proofs.Common.{◌≡◌, ℕ, zero, suc, ◌+◌, ◌<◌, ◌≤◌, ◌^◌, List, [], ◌∷◌, ◌++◌, Option, Some, None, Result, Ok, Err, IfOk, refl, ap, sym, subst, ◌∙◌, arith, map, length}
use Rattle.std.proofs.lemmas.Grind.{common_steps}
use Rattle.std.proofs.lemmas.List.{append_assoc, append-nil}
use Rattle.std.specs.List.{AllByRecursion, flat_map}
use Rattle.law_sig.specs.declared.seq.NoMemory.{NoMemory}
use Rattle.law_cert_text.specs.declared.cert.Entry.{Entry}
use Rattle.law_cert_text.specs.declared.cert.Entry.TheVariants as e
use Rattle.law_cert_text.specs.declared.cert.RawStep.{RawStep}
use Rattle.law_cert_text.specs.declared.cert.RawValues.{RawValues}
use Rattle.law_cert_text.specs.declared.cert.SortTree.{SortTree}
use Rattle.law_cert_text.specs.declared.cert.TreeLine.{TreeLine}
use Rattle.law_cert_text.specs.declared.cert.TreeLine.TheVariants as n
use Rattle.law_cert_text.specs.declared.line.CertLine.{CertLine}
use Rattle.law_cert_text.specs.declared.line.CertLine.TheVariants as c
use Rattle.law_cert_text.specs.declared.draft.Draft.{Draft}
use Rattle.law_cert_text.specs.declared.draft.Draft.TheVariants as d
use Rattle.law_cert_text.specs.declared.draft.Owed.{Owed}
use Rattle.law_cert_text.specs.Spelling.{steps_of}
use Rattle.law_cert_text.specs.Certificates.{ArePools, AreTrees, IsEntry, IsNode, IsPool, IsStep, IsTree, IsValues}
use Rattle.law_cert_text.specs.CertLines.{IsCertLine}
use Rattle.law_cert_text.specs.Drafts.{IsDraft, IsDraftWith, IsGrowing, behind_pools, behind_trees, closed_by, closed_pool, entered, entry_read, grown, noded, owes, paid, paid_by, planted, pool_read, pooled, read_of, stepped, tree_read, with_line, with_step}
use Rattle.law_cert_text.proofs.RowFacts.{all_more}

pub flat_more : (A : Type 0) (f : A → List CertLine) (xs : List A) (x : A) → flat_map f (xs ++ x ∷ []) ≡ flat_map f xs ++ f x
flat_more A f [] x = append-nil (f x)
flat_more A f (y ∷ xs) x = ap (λ l. f y ++ l) (flat_more A f xs x) ∙ sym (append_assoc (f y) (flat_map f xs) (f x))

pub map_more : (A : Type 0) (f : A → CertLine) (xs : List A) (x : A) → map f (xs ++ x ∷ []) ≡ map f xs ++ f x ∷ []
map_more A f [] x = refl
map_more A f (y ∷ xs) x = ap (λ l. f y ∷ l) (map_more A f xs x)

pub reads_to : (x draft : Draft) (lines : List CertLine) → Some x ≡ Some draft → read_of x ≡ lines → read_of draft ≡ lines
reads_to x draft lines e h = ap read_of (sym same) ∙ h
  where
    same : x ≡ draft
    same = cc

abbrev front : List (List RawValues) → List Entry → List SortTree → List CertLine
front pools entries trees = flat_map pool_read pools ++ (flat_map entry_read entries ++ flat_map tree_read trees)

-- an entry without steps is its line
alone : (entry : Entry) → steps_of entry ≡ [] → entry_read entry ≡ c.Entry entry ∷ []
alone (e.Law number mark left right) h = refl
alone (e.Lemma number left right steps) h = ap (λ l. c.Entry (e.Lemma number left right []) ∷ map c.Step l) h ∙ ap (λ l. c.Entry (e.Lemma number left right l) ∷ []) (sym h)
alone (e.Spread term) h = refl
alone (e.Killed general target steps) h = ap (λ l. c.Entry (e.Killed general target []) ∷ map c.Step l) h ∙ ap (λ l. c.Entry (e.Killed general target l) ∷ []) (sym h)
alone (e.Live term) h = refl
alone (e.Moved term target steps) h = ap (λ l. c.Entry (e.Moved term target []) ∷ map c.Step l) h ∙ ap (λ l. c.Entry (e.Moved term target l) ∷ []) (sym h)

front_more : (pools : List (List RawValues)) (entries : List Entry) (trees : List SortTree) (lines : List CertLine)
    → flat_map pool_read pools ++ (flat_map entry_read entries ++ (flat_map tree_read trees ++ lines)) ≡ front pools entries trees ++ lines
front_more pools entries trees lines =
    ap (λ l. flat_map pool_read pools ++ l) (sym (append_assoc (flat_map entry_read entries) (flat_map tree_read trees) lines))
    ∙ sym (append_assoc (flat_map pool_read pools) (flat_map entry_read entries ++ flat_map tree_read trees) lines)

trees_grow : (pools : List (List RawValues)) (entries : List Entry) (trees : List SortTree) (line : CertLine) (draft : Draft) → behind_trees pools entries trees line ≡ Some draft
    → read_of draft ≡ front pools entries trees ++ line ∷ []
trees_grow pools entries trees (c.Tree sort) draft h = reads_to (d.Trees pools entries trees (planted sort) (owes 1 0)) draft _ h (front_more pools entries trees (c.Tree sort ∷ []))
trees_grow pools entries trees c.End draft h = reads_to (d.Over pools entries trees) draft _ h (front_more pools entries trees (c.End ∷ []))
trees_grow pools entries trees line draft h = absurd cc

pools_grow : (pools : List (List RawValues)) (line : CertLine) (draft : Draft) → IsCertLine line → behind_pools pools line ≡ Some draft → read_of draft ≡ flat_map pool_read pools ++ line ∷ []
pools_grow pools c.Pool draft is h = reads_to (d.Pools pools []) draft _ h refl
pools_grow pools (c.Entry entry) draft is h = reads_to (d.Entries pools [] entry) draft _ h (ap (λ l. flat_map pool_read pools ++ l) (alone entry is.1))
pools_grow pools (c.Tree sort) draft is h = trees_grow pools [] [] (c.Tree sort) draft h ∙ ap (λ l. l ++ c.Tree sort ∷ []) (append-nil (flat_map pool_read pools))
pools_grow pools c.End draft is h = trees_grow pools [] [] c.End draft h ∙ ap (λ l. l ++ c.End ∷ []) (append-nil (flat_map pool_read pools))
pools_grow pools line draft is h = absurd cc

closed_grows : (pools : List (List RawValues)) (pool : List RawValues) (line : CertLine) (draft : Draft) → IsCertLine line → closed_pool pools pool line ≡ Some draft
    → read_of draft ≡ (flat_map pool_read pools ++ pool_read pool) ++ line ∷ []
closed_grows pools [] line draft is h = absurd cc
closed_grows pools (values ∷ pool) line draft is h =
    pools_grow (pools ++ (values ∷ pool) ∷ []) line draft is h ∙ ap (λ l. l ++ line ∷ []) (flat_more (List RawValues) pool_read pools (values ∷ pool))

pooled_grows : (pools : List (List RawValues)) (pool : List RawValues) (line : CertLine) (draft : Draft) → IsCertLine line → pooled pools pool line ≡ Some draft
    → read_of draft ≡ (flat_map pool_read pools ++ pool_read pool) ++ line ∷ []
pooled_grows pools pool (c.Values values) draft is h =
    reads_to (d.Pools pools (pool ++ values ∷ [])) draft _ h (ap (λ l. flat_map pool_read pools ++ c.Pool ∷ l) (map_more RawValues c.Values pool values) ∙ sym (append_assoc (flat_map pool_read pools) (pool_read pool) (c.Values values ∷ [])))
pooled_grows pools pool c.Pool draft is h = closed_grows pools pool c.Pool draft is h
pooled_grows pools pool (c.Entry entry) draft is h = closed_grows pools pool (c.Entry entry) draft is h
pooled_grows pools pool (c.Step step) draft is h = closed_grows pools pool (c.Step step) draft is h
pooled_grows pools pool (c.Tree sort) draft is h = closed_grows pools pool (c.Tree sort) draft is h
pooled_grows pools pool (c.Node node) draft is h = closed_grows pools pool (c.Node node) draft is h
pooled_grows pools pool c.End draft is h = closed_grows pools pool c.End draft is h

step_grows : (entry next : Entry) (step : RawStep) → with_step entry step ≡ Some next → entry_read next ≡ entry_read entry ++ c.Step step ∷ []
step_grows (e.Lemma number left right steps) next step h =
    ap entry_read (sym same) ∙ ap (λ l. c.Entry (e.Lemma number left right []) ∷ l) (map_more RawStep c.Step steps step)
  where
    same : e.Lemma number left right (steps ++ step ∷ []) ≡ next
    same = cc
step_grows (e.Killed general target steps) next step h = ap entry_read (sym same) ∙ ap (λ l. c.Entry (e.Killed general target []) ∷ l) (map_more RawStep c.Step steps step)
  where
    same : e.Killed general target (steps ++ step ∷ []) ≡ next
    same = cc
step_grows (e.Moved term target steps) next step h = ap entry_read (sym same) ∙ ap (λ l. c.Entry (e.Moved term target []) ∷ l) (map_more RawStep c.Step steps step)
  where
    same : e.Moved term target (steps ++ step ∷ []) ≡ next
    same = cc
step_grows entry next step h = absurd cc

closed_entry : (pools : List (List RawValues)) (entries : List Entry) (entry : Entry) (lines : List CertLine)
    → flat_map pool_read pools ++ (flat_map entry_read (entries ++ entry ∷ []) ++ lines) ≡ (flat_map pool_read pools ++ (flat_map entry_read entries ++ entry_read entry)) ++ lines
closed_entry pools entries entry lines =
    sym (append_assoc (flat_map pool_read pools) (flat_map entry_read (entries ++ entry ∷ [])) lines)
    ∙ ap (λ l. (flat_map pool_read pools ++ l) ++ lines) (flat_more Entry entry_read entries entry)

stepped_grows : (pools : List (List RawValues)) (entries : List Entry) (entry : Entry) (step : RawStep) (next : Option Entry) (draft : Draft) → with_step entry step ≡ next
    → stepped pools entries next ≡ Some draft → read_of draft ≡ (flat_map pool_read pools ++ (flat_map entry_read entries ++ entry_read entry)) ++ c.Step step ∷ []
stepped_grows pools entries entry step None draft s h = absurd cc
stepped_grows pools entries entry step (Some next) draft s h =
    reads_to (d.Entries pools entries next) draft _ h
    (ap (λ l. flat_map pool_read pools ++ (flat_map entry_read entries ++ l)) (step_grows entry next step s)
    ∙ ap (λ l. flat_map pool_read pools ++ l) (sym (append_assoc (flat_map entry_read entries) (entry_read entry) (c.Step step ∷ [])))
    ∙ sym (append_assoc (flat_map pool_read pools) (flat_map entry_read entries ++ entry_read entry) (c.Step step ∷ [])))

entered_trees : (pools : List (List RawValues)) (entries : List Entry) (entry : Entry) (line : CertLine) (draft : Draft) → behind_trees pools (entries ++ entry ∷ []) [] line ≡ Some draft
    → read_of draft ≡ (flat_map pool_read pools ++ (flat_map entry_read entries ++ entry_read entry)) ++ line ∷ []
entered_trees pools entries entry line draft h =
    trees_grow pools (entries ++ entry ∷ []) [] line draft h ∙ append_assoc (flat_map pool_read pools) (flat_map entry_read (entries ++ entry ∷ []) ++ []) (line ∷ [])
    ∙ ap (λ l. flat_map pool_read pools ++ (l ++ line ∷ [])) (append-nil (flat_map entry_read (entries ++ entry ∷ []))) ∙ closed_entry pools entries entry (line ∷ [])

entered_grows : (pools : List (List RawValues)) (entries : List Entry) (entry : Entry) (line : CertLine) (draft : Draft) → IsCertLine line → entered pools entries entry line ≡ Some draft
    → read_of draft ≡ (flat_map pool_read pools ++ (flat_map entry_read entries ++ entry_read entry)) ++ line ∷ []
entered_grows pools entries entry (c.Step step) draft is h = stepped_grows pools entries entry step (with_step entry step) draft refl h
entered_grows pools entries entry (c.Entry next) draft is h =
    reads_to (d.Entries pools (entries ++ entry ∷ []) next) draft _ h
    (ap (λ l. flat_map pool_read pools ++ (flat_map entry_read (entries ++ entry ∷ []) ++ l)) (alone next is.1) ∙ closed_entry pools entries entry (c.Entry next ∷ []))
entered_grows pools entries entry c.Pool draft is h = entered_trees pools entries entry c.Pool draft h
entered_grows pools entries entry (c.Values values) draft is h = entered_trees pools entries entry (c.Values values) draft h
entered_grows pools entries entry (c.Tree sort) draft is h = entered_trees pools entries entry (c.Tree sort) draft h
entered_grows pools entries entry (c.Node node) draft is h = entered_trees pools entries entry (c.Node node) draft h
entered_grows pools entries entry c.End draft is h = entered_trees pools entries entry c.End draft h

abbrev tree_front : List (List RawValues) → List Entry → List SortTree → SortTree → List CertLine
tree_front pools entries trees tree = flat_map pool_read pools ++ (flat_map entry_read entries ++ (flat_map tree_read trees ++ tree_read tree))

noded_grows : (pools : List (List RawValues)) (entries : List Entry) (trees : List SortTree) (tree : SortTree) (node : TreeLine) (owed : Option Owed) (draft : Draft)
    → noded pools entries trees tree node owed ≡ Some draft → read_of draft ≡ tree_front pools entries trees tree ++ c.Node node ∷ []
noded_grows pools entries trees tree node None draft h = absurd cc
noded_grows pools entries trees tree node (Some owed) draft h =
    reads_to (d.Trees pools entries trees (record { sort = tree.sort; lines = tree.lines ++ node ∷ [] }) owed) draft _ h
    (ap (λ l. flat_map pool_read pools ++ (flat_map entry_read entries ++ (flat_map tree_read trees ++ c.Tree tree.sort ∷ l))) (map_more TreeLine c.Node tree.lines node)
    ∙ front_more pools entries trees (tree_read tree ++ c.Node node ∷ []) ∙ sym (append_assoc (front pools entries trees) (tree_read tree) (c.Node node ∷ []))
    ∙ ap (λ l. l ++ c.Node node ∷ []) (sym (front_more pools entries trees (tree_read tree))))

closed_tree : (pools : List (List RawValues)) (entries : List Entry) (trees : List SortTree) (tree : SortTree) (line : CertLine) (draft : Draft)
    → behind_trees pools entries (trees ++ tree ∷ []) line ≡ Some draft → read_of draft ≡ tree_front pools entries trees tree ++ line ∷ []
closed_tree pools entries trees tree line draft h =
    trees_grow pools entries (trees ++ tree ∷ []) line draft h
    ∙ ap (λ l. (flat_map pool_read pools ++ (flat_map entry_read entries ++ l)) ++ line ∷ []) (flat_more SortTree tree_read trees tree)

closed_by_grows : (sorts terms : ℕ) (pools : List (List RawValues)) (entries : List Entry) (trees : List SortTree) (tree : SortTree) (line : CertLine) (draft : Draft)
    → closed_by sorts terms pools entries trees tree line ≡ Some draft → read_of draft ≡ tree_front pools entries trees tree ++ line ∷ []
closed_by_grows zero zero pools entries trees tree line draft h = closed_tree pools entries trees tree line draft h
closed_by_grows (suc sorts) terms pools entries trees tree line draft h = absurd cc
closed_by_grows zero (suc terms) pools entries trees tree line draft h = absurd cc

grown_grows : (pools : List (List RawValues)) (entries : List Entry) (trees : List SortTree) (tree : SortTree) (owed : Owed) (line : CertLine) (draft : Draft)
    → grown pools entries trees tree owed line ≡ Some draft → read_of draft ≡ tree_front pools entries trees tree ++ line ∷ []
grown_grows pools entries trees tree owed (c.Node node) draft h = noded_grows pools entries trees tree node (paid owed node) draft h
grown_grows pools entries trees tree owed c.Pool draft h = closed_by_grows owed.sorts owed.terms pools entries trees tree c.Pool draft h
grown_grows pools entries trees tree owed (c.Values values) draft h = closed_by_grows owed.sorts owed.terms pools entries trees tree (c.Values values) draft h
grown_grows pools entries trees tree owed (c.Entry entry) draft h = closed_by_grows owed.sorts owed.terms pools entries trees tree (c.Entry entry) draft h
grown_grows pools entries trees tree owed (c.Step step) draft h = closed_by_grows owed.sorts owed.terms pools entries trees tree (c.Step step) draft h
grown_grows pools entries trees tree owed (c.Tree sort) draft h = closed_by_grows owed.sorts owed.terms pools entries trees tree (c.Tree sort) draft h
grown_grows pools entries trees tree owed c.End draft h = closed_by_grows owed.sorts owed.terms pools entries trees tree c.End draft h

-- What was read grows by the line.
pub grows : (before draft : Draft) (line : CertLine) → IsCertLine line → with_line before line ≡ Some draft → read_of draft ≡ read_of before ++ line ∷ []
grows d.Start draft c.Pool is h = reads_to (d.Pools [] []) draft _ h refl
grows d.Start draft line is h = absurd cc
grows (d.Pools pools pool) draft line is h = pooled_grows pools pool line draft is h
grows (d.Entries pools entries entry) draft line is h = entered_grows pools entries entry line draft is h
grows (d.Trees pools entries trees tree owed) draft line is h = grown_grows pools entries trees tree owed line draft h
grows (d.Over pools entries trees) draft line is h = absurd cc

-- It stays a draft.
pub drafts_to : (x draft : Draft) → Some x ≡ Some draft → IsDraft x → IsDraft draft
drafts_to x draft e h = subst IsDraft same h
  where
    same : x ≡ draft
    same = cc

trees_keep : (pools : List (List RawValues)) (entries : List Entry) (trees : List SortTree) (line : CertLine) (draft : Draft) → IsCertLine line → behind_trees pools entries trees line ≡ Some draft
    → ArePools pools → AllByRecursion IsEntry entries → AllByRecursion IsTree trees → IsDraft draft
trees_keep pools entries trees (c.Tree sort) draft is h p q r =
    drafts_to (d.Trees pools entries trees (planted sort) (owes 1 0)) draft h (p, q, r, record { sort = is; each = tt; one = λ rest t. t; bound = omega arith })
trees_keep pools entries trees c.End draft is h p q r = drafts_to (d.Over pools entries trees) draft h (p, q, r)
trees_keep pools entries trees line draft is h p q r = absurd cc

pools_keep : (pools : List (List RawValues)) (line : CertLine) (draft : Draft) → IsCertLine line → behind_pools pools line ≡ Some draft → ArePools pools → IsDraft draft
pools_keep pools c.Pool draft is h p = drafts_to (d.Pools pools []) draft h (p.each, tt)
pools_keep pools (c.Entry entry) draft is h p = drafts_to (d.Entries pools [] entry) draft h (p, tt, is.0)
pools_keep pools (c.Tree sort) draft is h p = trees_keep pools [] [] (c.Tree sort) draft is h p tt tt
pools_keep pools c.End draft is h p = trees_keep pools [] [] c.End draft is h p tt tt
pools_keep pools line draft is h p = absurd cc

some_more : (A : Type 0) (xs : List A) (x : A) → 0 < length (xs ++ x ∷ [])
some_more A [] x = omega arith
some_more A (y ∷ xs) x = omega arith

closed_keeps : (pools : List (List RawValues)) (pool : List RawValues) (line : CertLine) (draft : Draft) → IsCertLine line → closed_pool pools pool line ≡ Some draft
    → AllByRecursion IsPool pools → AllByRecursion IsValues pool → IsDraft draft
closed_keeps pools [] line draft is h p q = absurd cc
closed_keeps pools (values ∷ pool) line draft is h p q =
    pools_keep (pools ++ (values ∷ pool) ∷ []) line draft is h (record { some = some_more (List RawValues) pools (values ∷ pool); each = all_more (List RawValues) IsPool pools (values ∷ pool) p (record { some = omega arith; each = q }) })

pooled_keeps : (pools : List (List RawValues)) (pool : List RawValues) (line : CertLine) (draft : Draft) → IsCertLine line → pooled pools pool line ≡ Some draft
    → AllByRecursion IsPool pools → AllByRecursion IsValues pool → IsDraft draft
pooled_keeps pools pool (c.Values values) draft is h p q = drafts_to (d.Pools pools (pool ++ values ∷ [])) draft h (p, all_more RawValues IsValues pool values q is)
pooled_keeps pools pool c.Pool draft is h p q = closed_keeps pools pool c.Pool draft is h p q
pooled_keeps pools pool (c.Entry entry) draft is h p q = closed_keeps pools pool (c.Entry entry) draft is h p q
pooled_keeps pools pool (c.Step step) draft is h p q = closed_keeps pools pool (c.Step step) draft is h p q
pooled_keeps pools pool (c.Tree sort) draft is h p q = closed_keeps pools pool (c.Tree sort) draft is h p q
pooled_keeps pools pool (c.Node node) draft is h p q = closed_keeps pools pool (c.Node node) draft is h p q
pooled_keeps pools pool c.End draft is h p q = closed_keeps pools pool c.End draft is h p q

step_keeps : (entry next : Entry) (step : RawStep) → with_step entry step ≡ Some next → IsEntry entry → IsStep step → IsEntry next
step_keeps (e.Lemma number left right steps) next step h q s = subst IsEntry same (q.0, q.1, q.2, all_more RawStep IsStep steps step q.3 s)
  where
    same : e.Lemma number left right (steps ++ step ∷ []) ≡ next
    same = cc
step_keeps (e.Killed general target steps) next step h q s = subst IsEntry same (q.0, q.1, all_more RawStep IsStep steps step q.2 s)
  where
    same : e.Killed general target (steps ++ step ∷ []) ≡ next
    same = cc
step_keeps (e.Moved term target steps) next step h q s = subst IsEntry same (q.0, q.1, all_more RawStep IsStep steps step q.2 s)
  where
    same : e.Moved term target (steps ++ step ∷ []) ≡ next
    same = cc
step_keeps entry next step h q s = absurd cc

stepped_keeps : (pools : List (List RawValues)) (entries : List Entry) (entry : Entry) (step : RawStep) (next : Option Entry) (draft : Draft) → with_step entry step ≡ next
    → stepped pools entries next ≡ Some draft → ArePools pools → AllByRecursion IsEntry entries → IsEntry entry → IsStep step → IsDraft draft
stepped_keeps pools entries entry step None draft s h p q r t = absurd cc
stepped_keeps pools entries entry step (Some next) draft s h p q r t = drafts_to (d.Entries pools entries next) draft h (p, q, step_keeps entry next step s r t)

entered_keeps : (pools : List (List RawValues)) (entries : List Entry) (entry : Entry) (line : CertLine) (draft : Draft) → IsCertLine line → entered pools entries entry line ≡ Some draft
    → ArePools pools → AllByRecursion IsEntry entries → IsEntry entry → IsDraft draft
entered_keeps pools entries entry (c.Step step) draft is h p q r = stepped_keeps pools entries entry step (with_step entry step) draft refl h p q r is
entered_keeps pools entries entry (c.Entry next) draft is h p q r = drafts_to (d.Entries pools (entries ++ entry ∷ []) next) draft h (p, all_more Entry IsEntry entries entry q r, is.0)
entered_keeps pools entries entry c.Pool draft is h p q r = absurd cc
entered_keeps pools entries entry (c.Values values) draft is h p q r = absurd cc
entered_keeps pools entries entry (c.Tree sort) draft is h p q r = trees_keep pools (entries ++ entry ∷ []) [] (c.Tree sort) draft is h p (all_more Entry IsEntry entries entry q r) tt
entered_keeps pools entries entry (c.Node node) draft is h p q r = absurd cc
entered_keeps pools entries entry c.End draft is h p q r = trees_keep pools (entries ++ entry ∷ []) [] c.End draft is h p (all_more Entry IsEntry entries entry q r) tt

-- what a line of a tree pays
pub pays : (sorts terms : ℕ) (node : TreeLine) (owed : Owed) (rest : List TreeLine) → paid_by sorts terms node ≡ Some owed → AreTrees owed.sorts owed.terms rest → AreTrees sorts terms (node ∷ rest)
pays zero (suc terms) (n.Leaf number) owed rest h t = subst (λ o. AreTrees o.sorts o.terms rest) (sym same) t
  where
    same : owes zero terms ≡ owed
    same = cc
pays zero (suc terms) (n.Split test count) owed rest h t = subst (λ o. AreTrees o.sorts o.terms rest) (sym same) t
  where
    same : owes zero (terms + count) ≡ owed
    same = cc
pays (suc sorts) (suc terms) (n.Leaf number) owed rest h t = subst (λ o. AreTrees o.sorts o.terms rest) (sym same) t
  where
    same : owes (suc sorts) terms ≡ owed
    same = cc
pays (suc sorts) (suc terms) (n.Split test count) owed rest h t = subst (λ o. AreTrees o.sorts o.terms rest) (sym same) t
  where
    same : owes (suc sorts) (terms + count) ≡ owed
    same = cc
pays (suc sorts) zero (n.Class numbers) owed rest h t = subst (λ o. AreTrees o.sorts o.terms rest) (sym same) t
  where
    same : owes sorts 1 ≡ owed
    same = cc
pays (suc sorts) zero (n.Split test count) owed rest h t = subst (λ o. AreTrees o.sorts o.terms rest) (sym same) t
  where
    same : owes (sorts + count) zero ≡ owed
    same = cc
pays sorts (suc terms) (n.Class numbers) owed rest h t = absurd cc
pays (suc sorts) zero (n.Leaf number) owed rest h t = absurd cc
pays zero zero node owed rest h t = absurd cc

owes_less : (sorts terms : ℕ) (node : TreeLine) (owed : Owed) → IsNode node → paid_by sorts terms node ≡ Some owed → owed.sorts + owed.terms ≤ sorts + terms + 2 ^ 63
owes_less sorts (suc terms) (n.Leaf number) owed is h = subst (λ o. o.sorts + o.terms ≤ sorts + suc terms + 2 ^ 63) same (omega arith)
  where
    same : owes sorts terms ≡ owed
    same = cc
owes_less sorts (suc terms) (n.Split test count) owed is h = let low = is.1 in subst (λ o. o.sorts + o.terms ≤ sorts + suc terms + 2 ^ 63) same (omega arith)
  where
    same : owes sorts (terms + count) ≡ owed
    same = cc
owes_less (suc sorts) zero (n.Class numbers) owed is h = subst (λ o. o.sorts + o.terms ≤ suc sorts + zero + 2 ^ 63) same (omega arith)
  where
    same : owes sorts 1 ≡ owed
    same = cc
owes_less (suc sorts) zero (n.Split test count) owed is h = let low = is.1 in subst (λ o. o.sorts + o.terms ≤ suc sorts + zero + 2 ^ 63) same (omega arith)
  where
    same : owes (sorts + count) zero ≡ owed
    same = cc
owes_less sorts (suc terms) (n.Class numbers) owed is h = absurd cc
owes_less (suc sorts) zero (n.Leaf number) owed is h = absurd cc
owes_less zero zero node owed is h = absurd cc

grew : (tree : SortTree) (owed next : Owed) (node : TreeLine) → IsGrowing tree owed → IsNode node → paid owed node ≡ Some next → IsGrowing (record { sort = tree.sort; lines = tree.lines ++ node ∷ [] }) next
grew tree owed next node g is h = record {
  sort = g.sort;
  each = all_more TreeLine IsNode tree.lines node g.each is;
  one = λ rest t. subst (AreTrees 1 0) (sym (append_assoc tree.lines (node ∷ []) rest)) (g.one (node ∷ rest) (pays owed.sorts owed.terms node next rest h t));
  bound = let l : length (tree.lines ++ node ∷ []) ≡ length tree.lines + 1 = grind (arith, common_steps) in let b = g.bound in let o = owes_less owed.sorts owed.terms node next is h in omega arith;
}

noded_keeps : (pools : List (List RawValues)) (entries : List Entry) (trees : List SortTree) (tree : SortTree) (owed : Owed) (node : TreeLine) (next : Option Owed) (draft : Draft) → paid owed node ≡ next
    → noded pools entries trees tree node next ≡ Some draft → ArePools pools → AllByRecursion IsEntry entries → AllByRecursion IsTree trees → IsGrowing tree owed → IsNode node → IsDraft draft
noded_keeps pools entries trees tree owed node None draft s h p q r g is = absurd cc
noded_keeps pools entries trees tree owed node (Some next) draft s h p q r g is =
    drafts_to (d.Trees pools entries trees (record { sort = tree.sort; lines = tree.lines ++ node ∷ [] }) next) draft h (p, q, r, grew tree owed next node g is s)

whole_tree : (tree : SortTree) → IsGrowing tree (owes zero zero) → IsTree tree
whole_tree tree g = record { sort = g.sort; each = g.each; one = subst (AreTrees 1 0) (append-nil tree.lines) (g.one [] tt) }

closed_by_keeps : (sorts terms : ℕ) (pools : List (List RawValues)) (entries : List Entry) (trees : List SortTree) (tree : SortTree) (line : CertLine) (draft : Draft) → IsCertLine line
    → closed_by sorts terms pools entries trees tree line ≡ Some draft → ArePools pools → AllByRecursion IsEntry entries → AllByRecursion IsTree trees → IsGrowing tree (owes sorts terms) → IsDraft draft
closed_by_keeps zero zero pools entries trees tree line draft is h p q r g =
    trees_keep pools entries (trees ++ tree ∷ []) line draft is h p q (all_more SortTree IsTree trees tree r (whole_tree tree g))
closed_by_keeps (suc sorts) terms pools entries trees tree line draft is h p q r g = absurd cc
closed_by_keeps zero (suc terms) pools entries trees tree line draft is h p q r g = absurd cc

grown_keeps : (pools : List (List RawValues)) (entries : List Entry) (trees : List SortTree) (tree : SortTree) (owed : Owed) (line : CertLine) (draft : Draft) → IsCertLine line
    → grown pools entries trees tree owed line ≡ Some draft → ArePools pools → AllByRecursion IsEntry entries → AllByRecursion IsTree trees → IsGrowing tree owed → IsDraft draft
grown_keeps pools entries trees tree owed (c.Node node) draft is h p q r g = noded_keeps pools entries trees tree owed node (paid owed node) draft refl h p q r g is
grown_keeps pools entries trees tree owed c.Pool draft is h p q r g = closed_by_keeps owed.sorts owed.terms pools entries trees tree c.Pool draft is h p q r g
grown_keeps pools entries trees tree owed (c.Values values) draft is h p q r g = closed_by_keeps owed.sorts owed.terms pools entries trees tree (c.Values values) draft is h p q r g
grown_keeps pools entries trees tree owed (c.Entry entry) draft is h p q r g = closed_by_keeps owed.sorts owed.terms pools entries trees tree (c.Entry entry) draft is h p q r g
grown_keeps pools entries trees tree owed (c.Step step) draft is h p q r g = closed_by_keeps owed.sorts owed.terms pools entries trees tree (c.Step step) draft is h p q r g
grown_keeps pools entries trees tree owed (c.Tree sort) draft is h p q r g = closed_by_keeps owed.sorts owed.terms pools entries trees tree (c.Tree sort) draft is h p q r g
grown_keeps pools entries trees tree owed c.End draft is h p q r g = closed_by_keeps owed.sorts owed.terms pools entries trees tree c.End draft is h p q r g

pub keeps : (before draft : Draft) (line : CertLine) → IsDraft before → IsCertLine line → with_line before line ≡ Some draft → IsDraft draft
keeps d.Start draft c.Pool b is h = drafts_to (d.Pools [] []) draft h (tt, tt)
keeps d.Start draft line b is h = absurd cc
keeps (d.Pools pools pool) draft line b is h = pooled_keeps pools pool line draft is h b.0 b.1
keeps (d.Entries pools entries entry) draft line b is h = entered_keeps pools entries entry line draft is h b.0 b.1 b.2
keeps (d.Trees pools entries trees tree owed) draft line b is h = grown_keeps pools entries trees tree owed line draft is h b.0 b.1 b.2 b.3
keeps (d.Over pools entries trees) draft line b is h = absurd cc

pub with_ok : (r : Result (Option Draft) NoMemory) (before : Draft) (line : CertLine) → IsDraft before → IsCertLine line → IfOk r (λ next. next ≡ with_line before line) → IfOk r (IsDraftWith before line)
with_ok (Ok None) before line b is h = sym h
with_ok (Ok (Some draft)) before line b is h = (keeps before draft line b is (sym h), grows before draft line is (sym h))
with_ok (Err error) before line b is h = tt
