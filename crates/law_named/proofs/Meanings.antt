-- A certificate states one thing at most, so one answer is given of it. What is written by names is read back.
use Rattle.std.proofs.Common.{◌≡◌, ℕ, inl, inr, List, [], length, Option, Some, None, IsSome, unwrap_or, refl, sym, ap, ◌∙◌, subst}
use Rattle.law_sig.specs.Signature.{sort_of}
use Rattle.law_sig.specs.WellFormed.{IsWellFormed, IsDeclared}
use Rattle.law_sig.specs.declared.tree.SortId.{SortId}
use Rattle.law_sig.specs.declared.tree.Tree.{Tree}
use Rattle.law_sig.specs.declared.tree.Tree.TheVariants.{Var}
use Rattle.law_sig.specs.declared.parts.SigParts.{SigParts}
use Rattle.law_laws.proofs.TreeFacts.{fold-Var, same_var}
use Rattle.law_laws.proofs.Sorts.{var_sorted}
use Rattle.law_laws.proofs.BodyFacts.{some_is, none_is}
use Rattle.law_lines.specs.declared.raw.RawHead.TheVariants as head
use Rattle.law_lines.specs.declared.raw.RawTerm.{RawTerm}
use Rattle.law_lines.specs.declared.raw.RawTerm.TheOpen.{RawTerm-F}
use Rattle.law_lines.specs.declared.raw.RawTerm.TheFolds.{fold-roll-RawTerm}
use Rattle.law_typing.specs.Names.{number_of}
use Rattle.law_typing.specs.Naming.{sort_name, named_term, name_step}
use Rattle.law_typing.specs.TypedTerm.{tree_of, tree_step, variable_of}
use Rattle.law_faultless.specs.Laws.{NamedStatesTerm}
use Rattle.law_faultless.proofs.OneSignature.{one_signature}
use Rattle.law_cert_text.specs.declared.cert.Cert.{Cert}
use Rattle.law_valid.specs.declared.certificate.SortTree.{SortTree}
use Rattle.law_valid.specs.Judged.{Judged}
use Rattle.law_valid.specs.declared.rule.Answer.{Answer}
use Rattle.law_named.specs.Named.{sort_named, term_named, pools_named, entries_named, AreTreesOf, Meaning, JudgedCert}
use Rattle.law_named.proofs.Reading.{one_reading}
use Rattle.law_valid.proofs.Verdicts.{one_answer}

-- the answers over a signature and trees
abbrev Answers : Cert → SigParts → List SortTree → Answer → Type 0
Answers cert parts trees = Judged parts (pools_named parts cert.pools) (entries_named parts cert.entries) trees

one_meaning : (cert : Cert) (m n : Meaning cert) (a b : Answer) → Answers cert m.parts m.trees a → Answers cert n.parts n.trees b → a ≡ b
one_meaning cert m n a b h k =
    let parts : n.parts ≡ m.parts = one_signature cert.sig n.parts m.parts n.typed m.typed in
    let are : AreTreesOf m.parts cert.trees n.trees = subst (λ p. AreTreesOf p cert.trees n.trees) parts n.trees_are in
    let trees : n.trees ≡ m.trees = one_reading m.parts cert.trees n.trees m.trees are m.trees_are in
    one_answer m.parts (pools_named m.parts cert.pools) (entries_named m.parts cert.entries) m.trees a b h
    (subst (λ t. Answers cert m.parts t b) trees (subst (λ p. Answers cert p n.trees b) parts k))

pub one_cert_answer : (cert : Cert) (a b : Answer) → JudgedCert cert a → JudgedCert cert b → a ≡ b
one_cert_answer cert a b (inl h) (inl k) = one_meaning cert h.0 k.0 a b h.1 k.1
one_cert_answer cert a b (inl h) (inr k) = absurd (k.0 h.0.parts h.0.typed)
one_cert_answer cert a b (inr h) (inl k) = absurd (h.0 k.0.parts k.0.typed)
one_cert_answer cert a b (inr h) (inr k) = h.1 ∙ sym k.1

-- what a variable that is written by its sort's name states
variable_is : (parts : SigParts) (sort : SortId) → variable_of (number_of parts.sort_names (sort_name parts sort)) 0 [] ≡ tree_of parts (named_term parts (Var sort 0))
variable_is parts sort =
    let layer : RawTerm-F RawTerm = record { head = head.Var (sort_name parts sort) 0; args = [] } in
    sym (fold-roll-RawTerm (Option Tree) (tree_step parts) layer) ∙ ap (tree_of parts) (sym (fold-Var RawTerm (name_step parts) sort 0))

sort_back : NamedStatesTerm → (parts : SigParts) → IsWellFormed parts → (sort : SortId) → IsDeclared parts sort → sort_named parts (sort_name parts sort) ≡ sort
sort_back states parts formed sort declared = by (number_of parts.sort_names (sort_name parts sort))
    (variable_is parts sort ∙ states parts (Var sort 0) formed (subst IsSome (sym (var_sorted parts sort 0 declared)) refl))
  where
    by : (o : Option ℕ) → variable_of o 0 [] ≡ Some (Var sort 0) → ◌≡◌ {A = SortId} (record { 0 = unwrap_or o (length parts.sort_names) }) sort
    by None h = none_is (Var sort 0) h
    by (Some n) h = (same_var (record { 0 = n }) sort 0 0 (some_is (Var (record { 0 = n }) 0) (Var sort 0) h)).0

term_back : NamedStatesTerm → (parts : SigParts) → IsWellFormed parts → (tree : Tree) → IsSome (sort_of parts tree) → term_named parts (named_term parts tree) ≡ tree
term_back states parts formed tree sorted =
    ap (λ t. unwrap_or t (Var (record { 0 = length parts.sort_names }) 0)) (states parts tree formed sorted)

pub names_back : NamedStatesTerm → (parts : SigParts) → IsWellFormed parts
    → ((sort : SortId) → IsDeclared parts sort → sort_named parts (sort_name parts sort) ≡ sort)
    × ((tree : Tree) → IsSome (sort_of parts tree) → term_named parts (named_term parts tree) ≡ tree)
names_back states parts formed = (sort_back states parts formed, term_back states parts formed)
