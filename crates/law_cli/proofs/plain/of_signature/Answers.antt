use Rattle.std.proofs.Common.{refl}
use Rattle.law_lines.specs.Spelling.{sig_spelling}
use Rattle.law_cli.proofs.AnswerFacts.{refused}
use Rattle.law_cli.proofs.plain.of_signature.Goals as goal

pub write_list-requires : goal.write_list-requires
write_list-requires c = c.in-Ok.ensures.listed.spelled

pub returns-in_ok-text-in-Ok : goal.returns-in_ok-text-in-Ok
returns-in_ok-text-in-Ok c = record {
  lines = c.args.raw;
  parts = c.args.sig.now;
  stated = record { text = record { raw = c.requires.raw; spelled = refl }; typed = c.requires.typed };
  list = c.in-Ok.list;
  listing = c.in-Ok.ensures.listed;
  printed = c.in_ok-text-in-Ok.ensures;
}

pub returns-in_ok-status_for-in-Err : goal.returns-in_ok-status_for-in-Err
returns-in_ok-status_for-in-Err c = refused (sig_spelling c.args.raw) c.in_ok-status_for-in-Err.field-0 c.refusal.result
    (c.in_ok-status_for-in-Err.ensures (sig_spelling c.args.raw) (record {
      lines = c.args.raw;
      parts = c.args.sig.now;
      stated = record { text = record { raw = c.requires.raw; spelled = refl }; typed = c.requires.typed };
      told = c.in-Err.ensures.refused;
    })) c.refusal.ensures
