use Rattle.std.proofs.Common.{refl}
use Rattle.law_cert_text.specs.Readers.{IsFed, IsStopped}
use Rattle.law_cert_text.proofs.Refusals.{passed_on}
use Rattle.law_cert.proofs.FeedFacts.{feeding_more, feeding_none, first_in, keeping_stops, last_fed, none_in, turning_stops}
use Rattle.law_cert.proofs.reader.CertReader.feed.Goals as goal

pub loop-end-init : goal.loop-end-init
loop-end-init c = feeding_none c.args.self.now c.args.piece.now c.in_ok-answer.ensures.answer c.in_ok-answer.ensures.reads c.in_ok-answer.ensures.whole

pub keep-requires-clause-part : goal.keep-requires-clause-part
keep-requires-clause-part c = (first_in c.loop-end.rest.now c.in-Some.end c.in-Some.ensures.0.high c.in-Some.ensures.0.before c.in-Some.ensures.1).before

pub returns-in_err-keep : goal.returns-in_err-keep
returns-in_err-keep c = record {
  ok = passed_on c.from_residual-in_err-keep.result _ (IsFed c.args.self.now c.keep.new.self c.args.piece.now) (IsStopped c.args.self.now c.keep.new.self c.args.piece.now) c.from_residual-in_err-keep.ensures.1
      (keeping_stops c.args.self.now c.loop-end.self c.keep.new.self c.args.piece.now c.loop-end.rest.now c.in-Some.end _ c.loop-end.invariant
      (first_in c.loop-end.rest.now c.in-Some.end c.in-Some.ensures.0.high c.in-Some.ensures.0.before c.in-Some.ensures.1) c.in_err-keep.ensures);
}

pub returns-in_err-turn : goal.returns-in_err-turn
returns-in_err-turn c = record {
  ok = passed_on c.from_residual-in_err-turn.result _ (IsFed c.args.self.now c.turn.new.self c.args.piece.now) (IsStopped c.args.self.now c.turn.new.self c.args.piece.now) c.from_residual-in_err-turn.ensures.1
      (turning_stops c.args.self.now c.loop-end.self c.keep.new.self c.turn.new.self c.args.piece.now c.loop-end.rest.now c.in-Some.end _ c.loop-end.invariant
      (first_in c.loop-end.rest.now c.in-Some.end c.in-Some.ensures.0.high c.in-Some.ensures.0.before c.in-Some.ensures.1) c.in_ok-keep.ensures c.in_err-turn.ensures);
}

pub loop-end-preserved : goal.loop-end-preserved
loop-end-preserved c = feeding_more c.args.self.now c.loop-end.self c.keep.new.self c.turn.new.self c.args.piece.now c.loop-end.rest.now _ c.in-Some.end c.loop-end.invariant
    (first_in c.loop-end.rest.now c.in-Some.end c.in-Some.ensures.0.high c.in-Some.ensures.0.before c.in-Some.ensures.1) c.in_ok-keep.ensures c.in_ok-turn.ensures refl

pub keep-requires-2-clause-part : goal.keep-requires-2-clause-part
keep-requires-2-clause-part c = none_in c.loop-end.rest.now c.in_default.ensures

pub returns : goal.returns
returns c = record { ok = last_fed c.keep-2.result c.args.self.now c.loop-end.self c.keep-2.new.self c.args.piece.now c.loop-end.rest.now c.loop-end.invariant c.keep-2.ensures }
