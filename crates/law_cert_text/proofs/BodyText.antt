-- The lines that were read are those of the certificate.
use Rattle.std.proofs.Common.{◌≡◌, ℕ, List, [], ◌∷◌, ◌++◌, refl, ap, sym, ◌∙◌, map}
use Rattle.std.proofs.lemmas.List.{append-nil}
use Rattle.std.specs.List.{flat_map}
use Rattle.law_lines.specs.declared.raw.RawLine.{RawLine}
use Rattle.law_lines.specs.Spelling.{text_of}
use Rattle.law_cert_text.specs.declared.cert.Cert.{Cert}
use Rattle.law_cert_text.specs.declared.cert.Entry.{Entry}
use Rattle.law_cert_text.specs.declared.cert.Entry.TheVariants as e
use Rattle.law_cert_text.specs.declared.cert.RawStep.{RawStep}
use Rattle.law_cert_text.specs.declared.cert.RawValues.{RawValues}
use Rattle.law_cert_text.specs.declared.cert.SortTree.{SortTree}
use Rattle.law_cert_text.specs.declared.cert.TreeLine.{TreeLine}
use Rattle.law_cert_text.specs.declared.line.CertLine.{CertLine}
use Rattle.law_cert_text.specs.declared.line.CertLine.TheVariants as c
use Rattle.law_cert_text.specs.declared.draft.Draft.TheVariants as d
use Rattle.law_cert_text.specs.Spelling.{entry_lines, entry_spelling, node_spelling, pool_lines, step_spelling, steps_of, tree_lines, values_spelling}
use Rattle.law_cert_text.specs.CertLines.{line_text}
use Rattle.law_cert_text.specs.Drafts.{bare, entry_read, pool_read, tree_read}
use Rattle.law_cert_text.specs.Readers.{Heard, IsFed, IsReadAs, IsWhole, body_lines}

pub texts_append : (xs ys : List CertLine) → map line_text (xs ++ ys) ≡ map line_text xs ++ map line_text ys
texts_append [] ys = refl
texts_append (x ∷ xs) ys = ap (λ l. line_text x ∷ l) (texts_append xs ys)

values_text : (pool : List RawValues) → map line_text (map c.Values pool) ≡ map values_spelling pool
values_text [] = refl
values_text (values ∷ pool) = ap (λ l. values_spelling values ∷ l) (values_text pool)

steps_text : (steps : List RawStep) → map line_text (map c.Step steps) ≡ map step_spelling steps
steps_text [] = refl
steps_text (step ∷ steps) = ap (λ l. step_spelling step ∷ l) (steps_text steps)

nodes_text : (nodes : List TreeLine) → map line_text (map c.Node nodes) ≡ map node_spelling nodes
nodes_text [] = refl
nodes_text (node ∷ nodes) = ap (λ l. node_spelling node ∷ l) (nodes_text nodes)

bare_text : (entry : Entry) → line_text (c.Entry (bare entry)) ≡ entry_spelling entry
bare_text (e.Law number mark left right) = refl
bare_text (e.Lemma number left right steps) = refl
bare_text (e.Spread term) = refl
bare_text (e.Killed general target steps) = refl
bare_text (e.Live term) = refl
bare_text (e.Moved term target steps) = refl

pools_text : (pools : List (List RawValues)) → map line_text (flat_map pool_read pools) ≡ flat_map pool_lines pools
pools_text [] = refl
pools_text (pool ∷ pools) = texts_append (pool_read pool) (flat_map pool_read pools) ∙ ap (λ l. (line_text c.Pool ∷ l) ++ map line_text (flat_map pool_read pools)) (values_text pool) ∙ ap (λ l. pool_lines pool ++ l) (pools_text pools)

entries_text : (entries : List Entry) → map line_text (flat_map entry_read entries) ≡ flat_map entry_lines entries
entries_text [] = refl
entries_text (entry ∷ entries) =
    texts_append (entry_read entry) (flat_map entry_read entries)
    ∙ ap (λ l. (l ∷ map line_text (map c.Step (steps_of entry))) ++ map line_text (flat_map entry_read entries)) (bare_text entry)
    ∙ ap (λ l. (entry_spelling entry ∷ l) ++ map line_text (flat_map entry_read entries)) (steps_text (steps_of entry)) ∙ ap (λ l. entry_lines entry ++ l) (entries_text entries)

trees_text : (trees : List SortTree) → map line_text (flat_map tree_read trees) ≡ flat_map tree_lines trees
trees_text [] = refl
trees_text (tree ∷ trees) =
    texts_append (tree_read tree) (flat_map tree_read trees) ∙ ap (λ l. (line_text (c.Tree tree.sort) ∷ l) ++ map line_text (flat_map tree_read trees)) (nodes_text tree.lines)
    ∙ ap (λ l. tree_lines tree ++ l) (trees_text trees)

pub body_text : (pools : List (List RawValues)) (entries : List Entry) (trees : List SortTree) → body_lines (d.Over pools entries trees)
    ≡ flat_map pool_lines pools ++ (flat_map entry_lines entries ++ (flat_map tree_lines trees ++ line_text c.End ∷ []))
body_text pools entries trees =
    let ends : List CertLine = c.End ∷ [] in
    texts_append (flat_map pool_read pools) (flat_map entry_read entries ++ (flat_map tree_read trees ++ ends))
    ∙ ap (λ l. l ++ map line_text (flat_map entry_read entries ++ (flat_map tree_read trees ++ ends))) (pools_text pools)
    ∙ ap (λ l. flat_map pool_lines pools ++ l)
    (texts_append (flat_map entry_read entries) (flat_map tree_read trees ++ ends) ∙ ap (λ l. l ++ map line_text (flat_map tree_read trees ++ ends)) (entries_text entries)
    ∙ ap (λ l. flat_map entry_lines entries ++ l) (texts_append (flat_map tree_read trees) ends ∙ ap (λ l. l ++ line_text c.End ∷ []) (trees_text trees)))

abbrev pub cert_of : List RawLine → List (List RawValues) → List Entry → List SortTree → Cert
cert_of sig pools entries trees = record { sig = sig; pools = pools; entries = entries; trees = trees }

pub read_as : (old new : Heard) (text : List ℕ) (cert : Cert) → old.lines ≡ [] → old.unfinished ≡ [] → IsFed old new text → IsWhole new cert → IsReadAs text cert
read_as old new text cert none nothing fed whole = record {
  is = whole.spelled;
  spelled =
      ap text_of whole.lines ∙ sym (append-nil (text_of new.lines)) ∙ ap (λ l. text_of new.lines ++ l) (sym whole.none_left) ∙ fed.text
      ∙ ap (λ l. (text_of l ++ old.unfinished) ++ text) none ∙ ap (λ l. l ++ text) nothing;
}

pub ruleset reads = (read_as)
