-- What was read can be completed: the lines so far have a reading.
use Rattle.std.proofs.Common.{◌≡◌, ℕ, zero, suc, ◌<◌, ◌^◌, List, [], ◌∷◌, ◌++◌, Option, Some, None, refl, ap, sym, ◌∙◌, arith, map, codes}
use Rattle.std.proofs.lemmas.List.{append_assoc, append-nil}
use Rattle.std.specs.List.{AllByRecursion}
use Rattle.law_lines.specs.declared.raw.RawLine.{RawLine}
use Rattle.law_lines.specs.declared.want.Bounds.TheVariants.{Kept}
use Rattle.law_lines.specs.Lines.{IsLine}
use Rattle.law_lines.specs.Signature.{IsRawSig}
use Rattle.law_lines.specs.Spelling.{line_spelling}
use Rattle.law_lines.specs.Stages.{InOrder, start}
use Rattle.law_lines.proofs.Completes.{sample, values_is}
use Rattle.law_lines.proofs.Completes as completes
use Rattle.law_cert_text.specs.declared.cert.Entry.{Entry}
use Rattle.law_cert_text.specs.declared.cert.RawValues.{RawValues}
use Rattle.law_cert_text.specs.declared.cert.SortTree.{SortTree}
use Rattle.law_cert_text.specs.declared.cert.TreeLine.{TreeLine}
use Rattle.law_cert_text.specs.declared.cert.TreeLine.TheVariants as n
use Rattle.law_cert_text.specs.declared.line.CertLine.{CertLine}
use Rattle.law_cert_text.specs.declared.line.CertLine.TheVariants as c
use Rattle.law_cert_text.specs.declared.draft.Draft.{Draft}
use Rattle.law_cert_text.specs.declared.draft.Draft.TheVariants as d
use Rattle.law_cert_text.specs.Certificates.{AreTrees, IsValues}
use Rattle.law_cert_text.specs.CertLines.{IsCertLine, line_text}
use Rattle.law_cert_text.specs.Drafts.{IsDraft, read_of, runs, with_line}
use Rattle.law_cert_text.specs.Readers.{body_lines, head_text}
use Rattle.law_cert_text.specs.Readings.{HasReading}
use Rattle.law_cert_text.proofs.BodyText.{cert_of, texts_append}
use Rattle.law_cert_text.proofs.DraftFacts.{drafts_to, grows, keeps, reads_to}
use Rattle.law_cert_text.proofs.OneCert.{lines_are}
use Rattle.law_cert_text.proofs.RunFacts.{grown_by, in_tree, nodes_run, runs_append, runs_none}

-- Lines that may come one behind the other keep a draft, and what was read grows by them.
pub record Ran (draft final : Draft) (lines : List CertLine) : Type 0 where
  pub kept : IsDraft final
  pub read : read_of final ≡ read_of draft ++ lines

pub ran : (lines : List CertLine) (draft final : Draft) → IsDraft draft → AllByRecursion IsCertLine lines → runs (Some draft) lines ≡ Some final → Ran draft final lines
ran [] draft final is h e = record { kept = drafts_to draft final e is; read = reads_to draft final (read_of draft ++ []) e (sym (append-nil (read_of draft))) }
ran (line ∷ lines) draft final is h e = by (ran lines) (with_line draft line) refl e
  where
    by : ((draft final : Draft) → IsDraft draft → AllByRecursion IsCertLine lines → runs (Some draft) lines ≡ Some final → Ran draft final lines)
        → (next : Option Draft) → with_line draft line ≡ next → runs next lines ≡ Some final → Ran draft final (line ∷ lines)
    by more None w r = absurd (let q = runs_none lines in cc)
    by more (Some next) w r = let s = more next final (keeps draft next line is h.0 w) h.1 r in record {
      kept = s.kept;
      read = s.read ∙ ap (λ l. l ++ lines) (grows draft next line h.0 w) ∙ append_assoc (read_of draft) (line ∷ []) lines;
    }

-- what pays all that a tree owes
abbrev filled : ℕ → ℕ → List TreeLine
filled zero zero = []
filled (suc sorts) zero = n.Class (0 ∷ []) ∷ n.Leaf 0 ∷ filled sorts zero
filled sorts (suc terms) = n.Leaf 0 ∷ filled sorts terms

leaf_pays : (sorts terms : ℕ) (lines : List TreeLine) → AreTrees sorts terms lines → AreTrees sorts (suc terms) (n.Leaf 0 ∷ lines)
leaf_pays zero terms lines h = h
leaf_pays (suc sorts) terms lines h = h

filled_pays : (sorts terms : ℕ) → AreTrees sorts terms (filled sorts terms)
filled_pays zero zero = tt
filled_pays (suc sorts) zero = leaf_pays sorts zero (filled sorts zero) (filled_pays sorts zero)
filled_pays zero (suc terms) = filled_pays zero terms
filled_pays (suc sorts) (suc terms) = filled_pays (suc sorts) terms

zero_is : 0 < 2 ^ 63
zero_is = omega arith

filled_are : (sorts terms : ℕ) → AllByRecursion IsCertLine (map c.Node (filled sorts terms) ++ c.End ∷ [])
filled_are zero zero = (tt, tt)
filled_are (suc sorts) zero = (((zero_is, tt), omega arith), (zero_is, filled_are sorts zero))
filled_are zero (suc terms) = (zero_is, filled_are zero terms)
filled_are (suc sorts) (suc terms) = (zero_is, filled_are (suc sorts) terms)

abbrev given : RawValues
given = record { sort = codes "A"; values = sample ∷ [] }

given_is : IsValues given
given_is = values_is

-- Some lines lead from the draft to the end.
pub record CanEnd (draft : Draft) : Type 0 where
  pub more : List CertLine
  pub each : AllByRecursion IsCertLine more
  pub pools : List (List RawValues)
  pub entries : List Entry
  pub trees : List SortTree
  pub ends : runs (Some draft) more ≡ Some (d.Over pools entries trees)

pub can_end : (draft : Draft) → CanEnd draft
can_end d.Start = record { more = c.Pool ∷ c.Values given ∷ c.End ∷ []; each = (tt, (given_is, (tt, tt))); pools = (given ∷ []) ∷ []; entries = []; trees = []; ends = refl }
can_end (d.Pools pools []) = record { more = c.Values given ∷ c.End ∷ []; each = (given_is, (tt, tt)); pools = pools ++ (given ∷ []) ∷ []; entries = []; trees = []; ends = refl }
can_end (d.Pools pools (values ∷ pool)) = record { more = c.End ∷ []; each = (tt, tt); pools = pools ++ (values ∷ pool) ∷ []; entries = []; trees = []; ends = refl }
can_end (d.Entries pools entries entry) = record { more = c.End ∷ []; each = (tt, tt); pools = pools; entries = entries ++ entry ∷ []; trees = []; ends = refl }
can_end (d.Trees pools entries trees tree owed) =
    let nodes = filled owed.sorts owed.terms in record {
      more = map c.Node nodes ++ c.End ∷ [];
      each = filled_are owed.sorts owed.terms;
      pools = pools;
      entries = entries;
      trees = trees ++ grown_by tree nodes ∷ [];
      ends =
          runs_append (in_tree pools entries trees tree owed.sorts owed.terms) (map c.Node nodes) (c.End ∷ [])
          ∙ ap (λ o. runs o (c.End ∷ [])) (nodes_run pools entries trees nodes tree owed.sorts owed.terms (filled_pays owed.sorts owed.terms));
    }
can_end (d.Over pools entries trees) = record { more = []; each = tt; pools = pools; entries = entries; trees = trees; ends = refl }

pub reads_on : (sig : List RawLine) (draft : Draft) → IsRawSig sig → IsDraft draft → HasReading (head_text ∷ (map line_spelling sig ++ body_lines draft))
reads_on sig draft s h =
    let e = can_end draft in
    let r = ran e.more draft (d.Over e.pools e.entries e.trees) h e.each e.ends in
    record {
      cert = cert_of sig e.pools e.entries e.trees;
      spelled = record { sig = s; pools = r.kept.0; entries = r.kept.1; trees = r.kept.2 };
      more = map line_text e.more;
      begins =
          lines_are (cert_of sig e.pools e.entries e.trees)
          ∙ ap (λ l. head_text ∷ (map line_spelling sig ++ l)) (ap (map line_text) r.read ∙ texts_append (read_of draft) e.more)
          ∙ ap (λ l. head_text ∷ l) (sym (append_assoc (map line_spelling sig) (body_lines draft) (map line_text e.more)));
    }

pub reads_sig : (lines : List RawLine) → InOrder start lines → AllByRecursion (IsLine Kept) lines → HasReading (head_text ∷ map line_spelling lines)
reads_sig lines order each =
    let q = completes.reads lines order each in
    let f = reads_on q.sig d.Start q.signature tt in
    record {
      cert = f.cert;
      spelled = f.spelled;
      more = q.more ++ f.more;
      begins =
          f.begins ∙ ap (λ l. head_text ∷ (l ++ f.more)) (append-nil (map line_spelling q.sig) ∙ q.begins)
          ∙ ap (λ l. head_text ∷ l) (append_assoc (map line_spelling lines) q.more f.more);
    }
