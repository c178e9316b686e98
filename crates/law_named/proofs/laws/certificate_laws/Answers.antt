-- Each law is proved by a lemma.
use Rattle.std.proofs.Common.{inl, inr}
use Rattle.law_cert_text.specs.declared.cert.Cert.{Cert}
use Rattle.law_valid.specs.declared.rule.Answer.TheVariants.{Yes}
use Rattle.law_named.specs.Named.{pools_named, entries_named, IsValidCert, JudgedCert}
use Rattle.law_valid.proofs.Covered.{covers}
use Rattle.law_valid.proofs.Passing.{never_no}
use Rattle.law_valid.proofs.Checked.{yes_valid, valid_yes}
use Rattle.law_named.proofs.Reading.{one_reading}
use Rattle.law_named.proofs.Meanings.{one_cert_answer, names_back}
use Rattle.law_named.proofs.Growing.{spelled_means}
use Rattle.law_named.proofs.laws.certificate_laws.Goals as goal

cert_valid : (cert : Cert) → JudgedCert cert Yes → IsValidCert cert
cert_valid cert (inl h) = record { means = h.0; valid = yes_valid h.0.parts (pools_named h.0.parts cert.pools) (entries_named h.0.parts cert.entries) h.0.trees h.1 }
cert_valid cert (inr h) = absurd (never_no _ _ h.1)

valid_cert : (cert : Cert) → IsValidCert cert → JudgedCert cert Yes
valid_cert cert v = inl (v.means, valid_yes v.means.parts (pools_named v.means.parts cert.pools) (entries_named v.means.parts cert.entries) v.means.trees v.valid)

pub returns : goal.returns
returns c = record {
  covers = λ cert v. covers v.means.parts (pools_named v.means.parts cert.pools) (entries_named v.means.parts cert.entries) v.means.trees v.valid;
  exact = λ cert. (cert_valid cert, valid_cert cert);
  one = one_cert_answer;
  reading = one_reading;
  spelled = spelled_means;
  names = names_back c.typing_laws.ensures.named;
}
