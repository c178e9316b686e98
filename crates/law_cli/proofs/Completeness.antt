-- A good text has what was asked for, where no call of the source or the sink fails; and each text has one answer.
use Rattle.std.proofs.Common.{◌≡◌, ℕ, ◌≤◌, ◌⊎◌, inl, inr, List, ◌++◌, length, Option, Some, None, arith, sym, ap, ◌∙◌, subst}
use Rattle.std.proofs.lemmas.List.{length-append, append-nil}
use Rattle.law_io.specs.Counts.{Rose}
use Rattle.law_places.proofs.FirstFaults.{one_fault_law}
use Rattle.law_lines.proofs.Whole.{one_text_law}
use Rattle.law_cert_text.proofs.NoneSpelled.{refused_is_none}
use Rattle.law_cert_text.proofs.OneCert.{one_cert}
use Rattle.law_faultless.proofs.OneSignature.{one_signature}
use Rattle.law_faultless.proofs.TextBack.{back}
use Rattle.law_named.specs.Named.{entries_named, pools_named}
use Rattle.law_valid.proofs.Checked.{valid_yes}
use Rattle.law_explore.specs.LawList.{OneRefusal, NoneWithin}
use Rattle.law_named.proofs.Meanings.{one_cert_answer}
use Rattle.law_cli.specs.Commands.{AreWordsOf, most_bytes}
use Rattle.law_cli.specs.Reading.{WasRead, GaveTooMany}
use Rattle.law_cli.specs.Laws.{GoodIsDone, IsAnswer, IsGood, OneAnswer}
use Rattle.law_cli.specs.Promise.{CanSucceed}
use Rattle.law_cli.specs.declared.command.Command.{Command}
use Rattle.law_cli.specs.declared.command.Command.TheVariants as command
use Rattle.law_cli.specs.declared.status.Status.{Status}
use Rattle.law_cli.specs.declared.status.Status.TheVariants as status
use Rattle.law_cli.proofs.Answered.{one_command}
use Rattle.law_cli.proofs.CheckAnswers.{Known, good_is_yes, one_check_answer}
use Rattle.law_cli.proofs.OneAnswer.{Below, good_is_listed, one_answer}

-- what the crates below prove
below : OneRefusal → NoneWithin → Below
below refusal within = record {
  text = one_text_law;
  fault = one_fault_law;
  faultless = λ lines parts raw typed. back lines parts typed;
  signature = one_signature;
  refusal = refusal;
  within = within;
}

known : Known
known = record {
  cert = one_cert;
  none = refused_is_none;
  answer = one_cert_answer;
  yes = λ cert v. inl (v.means, valid_yes v.means.parts (pools_named v.means.parts cert.pools) (entries_named v.means.parts cert.entries) v.means.trees v.valid);
  signature = one_signature;
}

-- for each command
pub one_of_each : OneRefusal → NoneWithin → OneAnswer
one_of_each refusal within command.Plain bytes text other s u h k = one_answer (below refusal within) bytes text other s u h k
one_of_each refusal within command.Check bytes text other s u h k = one_check_answer known bytes text other s u h k

pub good_is_done : OneRefusal → NoneWithin → GoodIsDone
good_is_done refusal within command.Plain bytes text s good h = good_is_listed (below refusal within) bytes text s good.lines good.parts good.stated good.within h
good_is_done refusal within command.Check bytes text s good h = good_is_yes known bytes text s good h

-- what was read to the end is all that was told
all_read : (before now : Option (List ℕ)) (bytes told : List ℕ) (most : ℕ) → before ≡ Some told → WasRead before now bytes most → told ≡ bytes
all_read None now bytes told most e read = cc
all_read (Some xs) None bytes told most e read = absurd read.consumed
all_read (Some xs) (Some ys) bytes told most e read =
    let same : xs ≡ told = cc in
    sym same ∙ read.consumed ∙ ap (λ l. bytes ++ l) read.at_end ∙ append-nil bytes

not_too_long : (before now : Option (List ℕ)) (told : List ℕ) (most : ℕ) → before ≡ Some told → length told ≤ most → GaveTooMany before now most → ⊥
not_too_long None now told most e short long = cc
not_too_long (Some xs) None told most e short long = absurd long.consumed
not_too_long (Some xs) (Some ys) told most e short long =
    let same : xs ≡ told = cc in
    omega (arith, ap length long.consumed, ap length same, short, long.count, length-append long.bytes ys)

pub never_too_long : (words : List (List ℕ)) (before now : Option (List ℕ)) (fb fn kb kn : ℕ) (asked : Command) → AreWordsOf words asked → CanSucceed words before fb fn kb kn → GaveTooMany before now (most_bytes asked) → ⊥
never_too_long words before now fb fn kb kn asked words_are can =
    not_too_long before now can.bytes (most_bytes asked) can.told (subst (λ c. length can.bytes ≤ most_bytes c) (one_command words can.asked asked can.words_are words_are) can.short)

-- the status that was planned for what was read
pub succeeds : GoodIsDone → (words : List (List ℕ)) (before now : Option (List ℕ)) (fb fn kb kn : ℕ) (asked : Command) (planned s : Status) (bytes text : List ℕ)
    → AreWordsOf words asked → WasRead before now bytes (most_bytes asked) → IsAnswer asked bytes planned text → (s ≡ planned) ⊎ (s ≡ status.WriteFault) → (s ≡ status.WriteFault → Rose kb kn)
    → CanSucceed words before fb fn kb kn → (s ≡ status.Done) ⊎ (s ≡ status.NoMemory)
succeeds laws words before now fb fn kb kn asked planned s bytes text words_are read is (inr e) write can = absurd (can.writes (write e))
succeeds laws words before now fb fn kb kn asked planned s bytes text words_are read is (inl e) write can =
    let good = subst (λ c. IsGood c can.bytes) (one_command words can.asked asked can.words_are words_are) can.good in
    inl (e ∙ laws asked bytes text planned (subst (IsGood asked) (all_read before now bytes can.bytes (most_bytes asked) can.told read) good) is)
