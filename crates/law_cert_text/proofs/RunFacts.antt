-- The lines of a certificate may come in their order: the draft that takes them one by one is the certificate.
use Rattle.std.proofs.Common.{◌≡◌, ℕ, zero, suc, ◌+◌, List, [], ◌∷◌, ◌++◌, Option, Some, None, refl, ap, sym, ◌∙◌, arith, map}
use Rattle.std.proofs.lemmas.List.{append_assoc, append-nil}
use Rattle.std.specs.List.{AllByRecursion, flat_map}
use Rattle.law_cert_text.specs.declared.cert.Entry.{Entry}
use Rattle.law_cert_text.specs.declared.cert.Entry.TheVariants as e
use Rattle.law_cert_text.specs.declared.cert.RawStep.{RawStep}
use Rattle.law_cert_text.specs.declared.cert.RawValues.{RawValues}
use Rattle.law_cert_text.specs.declared.cert.SortTree.{SortTree}
use Rattle.law_cert_text.specs.declared.cert.TreeLine.{TreeLine}
use Rattle.law_cert_text.specs.declared.cert.TreeLine.TheVariants as n
use Rattle.law_cert_text.specs.declared.line.CertLine.{CertLine}
use Rattle.law_cert_text.specs.declared.line.CertLine.TheVariants as c
use Rattle.law_cert_text.specs.declared.draft.Draft.{Draft}
use Rattle.law_cert_text.specs.declared.draft.Draft.TheVariants as d
use Rattle.law_cert_text.specs.Spelling.{steps_of}
use Rattle.law_cert_text.specs.Certificates.{ArePools, AreTrees, IsPool, IsTree}
use Rattle.law_cert_text.specs.Drafts.{bare, behind_trees, entry_read, owes, planted, pool_read, read_of, runs, tree_read, with_found, with_line}

pub runs_none : (lines : List CertLine) → runs None lines ≡ None
runs_none [] = refl
runs_none (line ∷ lines) = runs_none lines

pub runs_append : (found : Option Draft) (xs ys : List CertLine) → runs found (xs ++ ys) ≡ runs (runs found xs) ys
runs_append found [] ys = refl
runs_append found (x ∷ xs) ys = runs_append (with_found found x) xs ys

more_assoc : (A : Type 0) (xs : List A) (x : A) (ys : List A) → (xs ++ x ∷ []) ++ ys ≡ xs ++ x ∷ ys
more_assoc A xs x ys = append_assoc xs (x ∷ []) ys

-- trees
abbrev pub grown_by : SortTree → List TreeLine → SortTree
grown_by tree nodes = record { sort = tree.sort; lines = tree.lines ++ nodes }

abbrev pub in_tree : List (List RawValues) → List Entry → List SortTree → SortTree → ℕ → ℕ → Option Draft
in_tree pools entries trees tree sorts terms = Some (d.Trees pools entries trees tree (owes sorts terms))

pub nodes_run : (pools : List (List RawValues)) (entries : List Entry) (trees : List SortTree) (nodes : List TreeLine) (tree : SortTree) (sorts terms : ℕ) → AreTrees sorts terms nodes
    → runs (in_tree pools entries trees tree sorts terms) (map c.Node nodes) ≡ in_tree pools entries trees (grown_by tree nodes) 0 0
nodes_run pools entries trees [] tree zero zero h = ap (λ l. in_tree pools entries trees (record { sort = tree.sort; lines = l }) 0 0) (sym (append-nil tree.lines))
nodes_run pools entries trees [] tree (suc sorts) zero h = absurd h
nodes_run pools entries trees [] tree (suc sorts) (suc terms) h = absurd h
nodes_run pools entries trees [] tree zero (suc terms) h = absurd h
nodes_run pools entries trees (n.Leaf number ∷ nodes) tree zero (suc terms) h =
    nodes_run pools entries trees nodes (grown_by tree (n.Leaf number ∷ [])) zero terms h
    ∙ ap (λ l. in_tree pools entries trees (record { sort = tree.sort; lines = l }) 0 0) (more_assoc TreeLine tree.lines (n.Leaf number) nodes)
nodes_run pools entries trees (n.Leaf number ∷ nodes) tree (suc sorts) (suc terms) h =
    nodes_run pools entries trees nodes (grown_by tree (n.Leaf number ∷ [])) (suc sorts) terms h
    ∙ ap (λ l. in_tree pools entries trees (record { sort = tree.sort; lines = l }) 0 0) (more_assoc TreeLine tree.lines (n.Leaf number) nodes)
nodes_run pools entries trees (n.Split test count ∷ nodes) tree zero (suc terms) h =
    nodes_run pools entries trees nodes (grown_by tree (n.Split test count ∷ [])) zero (terms + count) h
    ∙ ap (λ l. in_tree pools entries trees (record { sort = tree.sort; lines = l }) 0 0) (more_assoc TreeLine tree.lines (n.Split test count) nodes)
nodes_run pools entries trees (n.Split test count ∷ nodes) tree (suc sorts) (suc terms) h =
    nodes_run pools entries trees nodes (grown_by tree (n.Split test count ∷ [])) (suc sorts) (terms + count) h
    ∙ ap (λ l. in_tree pools entries trees (record { sort = tree.sort; lines = l }) 0 0) (more_assoc TreeLine tree.lines (n.Split test count) nodes)
nodes_run pools entries trees (n.Class numbers ∷ nodes) tree (suc sorts) zero h =
    nodes_run pools entries trees nodes (grown_by tree (n.Class numbers ∷ [])) sorts 1 h
    ∙ ap (λ l. in_tree pools entries trees (record { sort = tree.sort; lines = l }) 0 0) (more_assoc TreeLine tree.lines (n.Class numbers) nodes)
nodes_run pools entries trees (n.Split test count ∷ nodes) tree (suc sorts) zero h =
    nodes_run pools entries trees nodes (grown_by tree (n.Split test count ∷ [])) (sorts + count) zero h
    ∙ ap (λ l. in_tree pools entries trees (record { sort = tree.sort; lines = l }) 0 0) (more_assoc TreeLine tree.lines (n.Split test count) nodes)
nodes_run pools entries trees (n.Class numbers ∷ nodes) tree zero (suc terms) h = absurd h
nodes_run pools entries trees (n.Class numbers ∷ nodes) tree (suc sorts) (suc terms) h = absurd h
nodes_run pools entries trees (n.Leaf number ∷ nodes) tree (suc sorts) zero h = absurd h
nodes_run pools entries trees (n.Leaf number ∷ nodes) tree zero zero h = absurd h
nodes_run pools entries trees (n.Split test count ∷ nodes) tree zero zero h = absurd h
nodes_run pools entries trees (n.Class numbers ∷ nodes) tree zero zero h = absurd h

-- Behind this draft a tree or the end may come, with these parts before it.
record MayPlant (draft : Draft) (pools : List (List RawValues)) (entries : List Entry) (trees : List SortTree) : Type 0 where
  tree : (sort : List ℕ) → with_line draft (c.Tree sort) ≡ behind_trees pools entries trees (c.Tree sort)
  end : with_line draft c.End ≡ behind_trees pools entries trees c.End

abbrev ending : List CertLine
ending = c.End ∷ []

trees_run : (pools : List (List RawValues)) (entries : List Entry) (more : List SortTree) (trees : List SortTree) (draft : Draft) → MayPlant draft pools entries trees → AllByRecursion IsTree more
    → runs (Some draft) (flat_map tree_read more ++ ending) ≡ Some (d.Over pools entries (trees ++ more))
trees_run pools entries [] trees draft may h = may.end ∙ ap (λ l. Some (d.Over pools entries l)) (sym (append-nil trees))
trees_run pools entries (tree ∷ more) trees draft may h =
    let next = d.Trees pools entries trees tree (owes 0 0) in
    ap (λ l. runs (Some draft) (c.Tree tree.sort ∷ l)) (append_assoc (map c.Node tree.lines) (flat_map tree_read more) ending)
    ∙ ap (λ o. runs o (map c.Node tree.lines ++ (flat_map tree_read more ++ ending))) (may.tree tree.sort)
    ∙ runs_append (in_tree pools entries trees (planted tree.sort) 1 0) (map c.Node tree.lines) (flat_map tree_read more ++ ending)
    ∙ ap (λ o. runs o (flat_map tree_read more ++ ending)) (nodes_run pools entries trees tree.lines (planted tree.sort) 1 0 h.0.one)
    ∙ trees_run pools entries more (trees ++ tree ∷ []) next (record { tree = λ sort. refl; end = refl }) h.1
    ∙ ap (λ l. Some (d.Over pools entries l)) (more_assoc SortTree trees tree more)

-- entries
steps_run : (pools : List (List RawValues)) (entries : List Entry) (entry : Entry) → runs (Some (d.Entries pools entries (bare entry))) (map c.Step (steps_of entry)) ≡ Some (d.Entries pools entries entry)
steps_run pools entries (e.Law number mark left right) = refl
steps_run pools entries (e.Spread term) = refl
steps_run pools entries (e.Live term) = refl
steps_run pools entries (e.Lemma number left right steps) = by steps []
  where
    by : (more steps : List RawStep) → runs (Some (d.Entries pools entries (e.Lemma number left right steps))) (map c.Step more) ≡ Some (d.Entries pools entries (e.Lemma number left right (steps ++ more)))
    by [] steps = ap (λ l. Some (d.Entries pools entries (e.Lemma number left right l))) (sym (append-nil steps))
    by (step ∷ more) steps = by more (steps ++ step ∷ []) ∙ ap (λ l. Some (d.Entries pools entries (e.Lemma number left right l))) (more_assoc RawStep steps step more)
steps_run pools entries (e.Killed general target steps) = by steps []
  where
    by : (more steps : List RawStep) → runs (Some (d.Entries pools entries (e.Killed general target steps))) (map c.Step more) ≡ Some (d.Entries pools entries (e.Killed general target (steps ++ more)))
    by [] steps = ap (λ l. Some (d.Entries pools entries (e.Killed general target l))) (sym (append-nil steps))
    by (step ∷ more) steps = by more (steps ++ step ∷ []) ∙ ap (λ l. Some (d.Entries pools entries (e.Killed general target l))) (more_assoc RawStep steps step more)
steps_run pools entries (e.Moved term target steps) = by steps []
  where
    by : (more steps : List RawStep) → runs (Some (d.Entries pools entries (e.Moved term target steps))) (map c.Step more) ≡ Some (d.Entries pools entries (e.Moved term target (steps ++ more)))
    by [] steps = ap (λ l. Some (d.Entries pools entries (e.Moved term target l))) (sym (append-nil steps))
    by (step ∷ more) steps = by more (steps ++ step ∷ []) ∙ ap (λ l. Some (d.Entries pools entries (e.Moved term target l))) (more_assoc RawStep steps step more)

record MayEnter (draft : Draft) (pools : List (List RawValues)) (entries : List Entry) : Type 0 where
  entry : (entry : Entry) → with_line draft (c.Entry entry) ≡ Some (d.Entries pools entries entry)
  plant : MayPlant draft pools entries []

entries_run : (pools : List (List RawValues)) (trees : List SortTree) (more : List Entry) (entries : List Entry) (draft : Draft) → MayEnter draft pools entries → AllByRecursion IsTree trees
    → runs (Some draft) (flat_map entry_read more ++ (flat_map tree_read trees ++ ending)) ≡ Some (d.Over pools (entries ++ more) trees)
entries_run pools trees [] entries draft may h = trees_run pools entries trees [] draft may.plant h ∙ ap (λ l. Some (d.Over pools l trees)) (sym (append-nil entries))
entries_run pools trees (entry ∷ more) entries draft may h =
    let rest = flat_map entry_read more ++ (flat_map tree_read trees ++ ending) in
    let next = d.Entries pools entries entry in
    ap (λ l. runs (Some draft) (c.Entry (bare entry) ∷ l)) (append_assoc (map c.Step (steps_of entry)) (flat_map entry_read more) (flat_map tree_read trees ++ ending))
    ∙ ap (λ o. runs o (map c.Step (steps_of entry) ++ rest)) (may.entry (bare entry))
    ∙ runs_append (Some (d.Entries pools entries (bare entry))) (map c.Step (steps_of entry)) rest
    ∙ ap (λ o. runs o rest) (steps_run pools entries entry)
    ∙ entries_run pools trees more (entries ++ entry ∷ []) next (record { entry = λ x. refl; plant = record { tree = λ sort. refl; end = refl } }) h
    ∙ ap (λ l. Some (d.Over pools l trees)) (more_assoc Entry entries entry more)

-- pools
values_run : (pools : List (List RawValues)) (more pool : List RawValues) → runs (Some (d.Pools pools pool)) (map c.Values more) ≡ Some (d.Pools pools (pool ++ more))
values_run pools [] pool = ap (λ l. Some (d.Pools pools l)) (sym (append-nil pool))
values_run pools (values ∷ more) pool = values_run pools more (pool ++ values ∷ []) ∙ ap (λ l. Some (d.Pools pools l)) (more_assoc RawValues pool values more)

abbrev behind : List Entry → List SortTree → List CertLine
behind entries trees = flat_map entry_read entries ++ (flat_map tree_read trees ++ ending)

pools_run : (entries : List Entry) (trees : List SortTree) (more : List (List RawValues)) (pools : List (List RawValues)) (values : RawValues) (pool : List RawValues) → AllByRecursion IsPool more
    → AllByRecursion IsTree trees
    → runs (Some (d.Pools pools (values ∷ pool))) (flat_map pool_read more ++ behind entries trees) ≡ Some (d.Over ((pools ++ (values ∷ pool) ∷ []) ++ more) entries trees)
pools_run entries trees [] pools values pool h t =
    entries_run (pools ++ (values ∷ pool) ∷ []) trees entries [] (d.Pools pools (values ∷ pool)) (record { entry = λ x. refl; plant = record { tree = λ sort. refl; end = refl } }) t
    ∙ ap (λ l. Some (d.Over l entries trees)) (sym (append-nil (pools ++ (values ∷ pool) ∷ [])))
pools_run entries trees ([] ∷ more) pools values pool h t = let some = h.0.some in absurd (omega arith)
pools_run entries trees ((first ∷ next) ∷ more) pools values pool h t =
    let before = pools ++ (values ∷ pool) ∷ [] in
    ap (λ l. runs (Some (d.Pools pools (values ∷ pool))) (c.Pool ∷ l)) (append_assoc (map c.Values (first ∷ next)) (flat_map pool_read more) (behind entries trees))
    ∙ runs_append (Some (d.Pools before [])) (map c.Values (first ∷ next)) (flat_map pool_read more ++ behind entries trees)
    ∙ ap (λ o. runs o (flat_map pool_read more ++ behind entries trees)) (values_run before (first ∷ next) [])
    ∙ pools_run entries trees more before first next h.1 t
    ∙ ap (λ l. Some (d.Over l entries trees)) (more_assoc (List RawValues) before (first ∷ next) more)

-- All lines of a certificate behind its signature lead to it.
pub cert_runs : (pools : List (List RawValues)) (entries : List Entry) (trees : List SortTree) → ArePools pools → AllByRecursion IsTree trees
    → runs (Some d.Start) (read_of (d.Over pools entries trees)) ≡ Some (d.Over pools entries trees)
cert_runs [] entries trees h t = let some = h.some in absurd (omega arith)
cert_runs ([] ∷ more) entries trees h t = let some = h.each.0.some in absurd (omega arith)
cert_runs ((first ∷ next) ∷ more) entries trees h t =
    ap (λ l. runs (Some d.Start) (c.Pool ∷ l)) (append_assoc (map c.Values (first ∷ next)) (flat_map pool_read more) (behind entries trees))
    ∙ runs_append (Some (d.Pools [] [])) (map c.Values (first ∷ next)) (flat_map pool_read more ++ behind entries trees)
    ∙ ap (λ o. runs o (flat_map pool_read more ++ behind entries trees)) (values_run [] (first ∷ next) []) ∙ pools_run entries trees more [] first next h.each.1 t

-- One certificate has these lines.
abbrev pools_in : Option Draft → List (List RawValues)
pools_in (Some (d.Over pools entries trees)) = pools
pools_in found = []

abbrev entries_in : Option Draft → List Entry
entries_in (Some (d.Over pools entries trees)) = entries
entries_in found = []

abbrev trees_in : Option Draft → List SortTree
trees_in (Some (d.Over pools entries trees)) = trees
trees_in found = []

pub one_body : (pools more : List (List RawValues)) (entries others : List Entry) (trees also : List SortTree) → ArePools pools → ArePools more → AllByRecursion IsTree trees → AllByRecursion IsTree also
    → read_of (d.Over pools entries trees) ≡ read_of (d.Over more others also) → (pools ≡ more) × (entries ≡ others) × (trees ≡ also)
one_body pools more entries others trees also h g s t same =
    let q = sym (cert_runs pools entries trees h s) ∙ ap (runs (Some d.Start)) same ∙ cert_runs more others also g t in
    (ap pools_in q, ap entries_in q, ap trees_in q)
