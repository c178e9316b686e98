-- What is said of a whole certificate.
use Rattle.std.proofs.Common.{◌≡◌, ◌↔◌, ℕ, ◌≤◌, inl, inr, IsTrue, Bool, true, false, true≢false, Option, Some, None, is_some, List, [], refl, sym, ap, ◌∙◌, subst, arith, rules, nat_lt, if◌then◌else◌}
use Rattle.law_sig.specs.Lists.{Each}
use Rattle.law_sig.specs.Trees.{node_count}
use Rattle.law_sig.specs.Counts.{at_most}
use Rattle.law_sig.proofs.TermCounts.{some_within}
use Rattle.law_sig.specs.WellFormed.{IsWellFormed}
use Rattle.law_sig.specs.Tests.{Pools, assignments}
use Rattle.law_sig.specs.declared.tree.SortId.{SortId}
use Rattle.law_sig.specs.declared.tree.Tree.{Tree}
use Rattle.law_sig.specs.declared.parts.SigParts.{SigParts}
use Rattle.law_laws.proofs.ListFacts.{of_each}
use Rattle.law_lines.specs.declared.raw.RawTerm.{RawTerm}
use Rattle.law_cert_text.specs.declared.cert.RawValues.{RawValues}
use Rattle.law_cert_text.specs.declared.cert.Cert.{Cert}
use Rattle.law_cert_text.specs.Certificates.{IsCertText}
use Rattle.law_typing.specs.Naming.{named_term}
use Rattle.law_typing.specs.Typed.{IsTypedAs}
use Rattle.law_draws.specs.Draws.{pools_by}
use Rattle.law_draws.specs.Sizes.{AreSmall, IsFirst}
use Rattle.law_valid.specs.declared.certificate.SortTree.{SortTree}
use Rattle.law_valid.specs.declared.rule.Answer.{Answer}
use Rattle.law_valid.specs.declared.rule.Answer.TheVariants as answer
use Rattle.law_valid.specs.declared.rule.Rule.{Rule}
use Rattle.law_valid.specs.declared.rule.Rule.TheVariants as r
use Rattle.law_valid.specs.Valid.{IsWithinLimits}
use Rattle.law_valid.specs.Judged.{Background, Entries, InTrees, entry_after, Judged}
use Rattle.law_named.specs.Named.{pools_named, entries_named, Meaning, IsValidCert, JudgedCert}
use Rattle.law_named.specs.Certificates.{CertCovers, CertYesIsValid, OneCertAnswer, SpelledMeans}
use Rattle.law_checking.specs.declared.verdict.CheckErr.TheVariants as err
use Rattle.law_checking.specs.declared.verdict.Counts.{Counts}
use Rattle.law_checking.specs.declared.verdict.Verdict.TheVariants as v
use Rattle.law_checking.specs.Parts.{IsYes}
use Rattle.law_checking.specs.Steps.{AnswersAll}
use Rattle.law_checking.specs.Verdicts.{counted, StatesNone, JudgedOver, JudgedPools, IsVerdict, IsExact, IsCovering, IsOver}
use Rattle.law_checking.proofs.StepFacts.{background_map, background_on}
use Rattle.law_checking.proofs.AnswerFacts.{get_in}

-- Limits

pub too_many : (n : ℕ) (o : Option ℕ) → o ≡ at_most 4096 n → is_some o ≡ false → n ≤ 4096 → ⊥
too_many n o is none few = true≢false (sym (ap is_some (is ∙ sym (some_within 4096 n n refl few))) ∙ none)

pub few_enough : (n : ℕ) (o : Option ℕ) → o ≡ at_most 4096 n → is_some o ≡ true → n ≤ 4096
few_enough n o is some = by (nat_lt 4096 n) refl (ap is_some (sym is) ∙ some)
  where
    by : (b : Bool) → nat_lt 4096 n ≡ b → is_some (if b then None else Some n) ≡ true → n ≤ 4096
    by true k h = absurd (true≢false (sym h))
    by false k h = search rules

module _ (parts : SigParts) (cert : Cert) where
  pub over_limits : (IsWithinLimits parts → ⊥) → JudgedOver parts cert (answer.No r.V1 0)
  over_limits never trees are = inr (never, refl)

  pub large_value : (pool : ℕ) (sort : SortId) → IsFirst (pools_by parts) pool sort → IsWithinLimits parts → ⊥
  large_value pool sort first w =
      let sorts = of_each (Each AreSmall) (get_in (pools_by parts) pool first.sorts first.there) w.small_values in
      let values = of_each AreSmall (get_in first.sorts sort.0 first.first.values first.first.there) sorts in
      let large = first.first.large in
      let small = of_each (λ v. node_count v ≤ 4096) large.1 values in
      let more = large.2 in
      absurd (omega (arith, small, more))

  pub within_limits : (a : Answer) → IsWellFormed parts → assignments parts ≤ 4096 → Each (Each AreSmall) (pools_by parts) → JudgedPools parts cert a → JudgedOver parts cert a
  within_limits a well few small h trees are = inl (record { well_formed = well; few_assignments = few; small_values = small }, h trees are)

  -- Pools and background

  abbrev all_after : Pools → List SortTree → Answer → Type 0
  all_after pools trees =
      Entries parts pools (InTrees parts pools (entries_named parts cert.entries) (entry_after (entries_named parts cert.entries)) [] trees) [] None (entries_named parts cert.entries)

  -- by the names of the signature, the lines of the certificate and the values
  pub pools_exact : (names : SigParts) (raws : List (List RawValues)) (given values : Pools) (b : Bool) → names ≡ parts → raws ≡ cert.pools → given ≡ values
      → (IsTrue b ↔ (pools_named names raws ≡ given)) → (IsTrue b ↔ (pools_named parts cert.pools ≡ values))
  pools_exact names raws given values b n r g exact = subst (λ p. IsTrue b ↔ (pools_named p cert.pools ≡ values)) n
      (subst (λ l. IsTrue b ↔ (pools_named names l ≡ values)) r (subst (λ v. IsTrue b ↔ (pools_named names raws ≡ v)) g exact))

  pub other_pools : (b : Bool) (values : Pools) → (IsTrue b ↔ (pools_named parts cert.pools ≡ values)) → b ≡ false → values ≡ pools_by parts
      → JudgedPools parts cert (answer.No r.V2 0)
  other_pools b values exact off are_by trees are = inr ((λ same. true≢false (sym (exact.1 (same ∙ sym are_by)) ∙ off)), refl)

  module _ (same : pools_named parts cert.pools ≡ pools_by parts) where
    pub background_fault : (a : Answer) → Background parts (pools_by parts) parts.settings.background IsYes a → (a ≡ answer.Yes → ⊥) → JudgedPools parts cert a
    background_fault a h never trees are = inl (
      same,
      subst (λ ps. Background parts ps parts.settings.background (all_after ps trees) a) (sym same)
          (background_map parts (pools_by parts) IsYes (all_after (pools_by parts) trees) a (λ y. absurd (never y)) parts.settings.background h),
    )

    pub all_answered : (a b : Answer) → Background parts (pools_by parts) parts.settings.background IsYes a → a ≡ answer.Yes → AnswersAll parts cert.entries cert.trees b
        → JudgedPools parts cert b
    all_answered a b h good all trees are = inl (
      same,
      subst (λ ps. Background parts ps parts.settings.background (all_after ps trees) b) (sym same)
          (background_on parts (pools_by parts) IsYes (all_after (pools_by parts) trees) b (λ y. all trees are) parts.settings.background
          (subst (Background parts (pools_by parts) parts.settings.background IsYes) good h)),
    )

-- Verdicts

module _ (spelled : SpelledMeans) (cert : Cert) (parts : SigParts) (text : IsCertText cert) (typed : IsTypedAs cert.sig parts) (a : Answer) (judged : JudgedOver parts cert a) where
  judged_there : (m : Meaning cert) → m.parts ≡ parts → Judged m.parts (pools_named m.parts cert.pools) (entries_named m.parts cert.entries) m.trees a
  judged_there m same = subst (λ p. JudgedOver p cert a) (sym same) judged m.trees m.trees_are

  pub cert_judged : JudgedCert cert a
  cert_judged = let m = spelled cert parts text typed in inl (m.0, judged_there m.0 m.1)

  pub yes_told : (exact : CertYesIsValid) (covers : CertCovers) (counts : Counts) → a ≡ answer.Yes → counts ≡ counted cert.entries
      → IsVerdict cert (v.Yes counts) × IsExact cert (v.Yes counts) × IsCovering cert (v.Yes counts)
  yes_told exact covers counts good are =
      let j = subst (JudgedCert cert) good cert_judged in
      let valid = (exact cert).0 j in
      ((j, are), valid, record { means = valid.means; covered = covers cert valid })

  never_valid : (exact : CertYesIsValid) (one : OneCertAnswer) → (a ≡ answer.Yes → ⊥) → IsValidCert cert → ⊥
  never_valid exact one never valid = never (one cert a answer.Yes cert_judged ((exact cert).1 valid))

  no_yes : (rule : Rule) (entry : ℕ) → answer.No rule entry ≡ answer.Yes → ⊥
  no_yes rule entry e = cc

  over_yes : (entry test : ℕ) (t : Tree) → answer.Over entry test t ≡ answer.Yes → ⊥
  over_yes entry test t e = cc

  pub no_told : (exact : CertYesIsValid) (one : OneCertAnswer) (rule : Rule) (entry : ℕ) → a ≡ answer.No rule entry
      → IsVerdict cert (v.No rule entry) × IsExact cert (v.No rule entry)
  no_told exact one rule entry bad = (
    subst (JudgedCert cert) bad cert_judged,
    never_valid exact one (λ good. no_yes rule entry (sym bad ∙ good)),
  )

  pub over_told : (exact : CertYesIsValid) (one : OneCertAnswer) (entry test : ℕ) (term : Tree) (raw : RawTerm) → a ≡ answer.Over entry test term → raw ≡ named_term parts term
      → IsOver cert (err.Over entry test raw)
  over_told exact one entry test term raw over named =
      let m = spelled cert parts text typed in (
        term,
        record { means = m.0; judged = subst (Judged m.0.parts (pools_named m.0.parts cert.pools) (entries_named m.0.parts cert.entries) m.0.trees) over (judged_there m.0 m.1) },
        named ∙ ap (λ p. named_term p term) (sym m.1),
        never_valid exact one (λ good. over_yes entry test term (sym over ∙ good)),
      )

pub untyped_no : (cert : Cert) → StatesNone cert.sig → IsVerdict cert (v.No r.V1 0) × IsExact cert (v.No r.V1 0)
untyped_no cert none = (inr (none, refl), λ valid. none valid.means.parts valid.means.typed)
