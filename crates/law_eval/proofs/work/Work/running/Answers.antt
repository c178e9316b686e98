use Rattle.std.proofs.Common.{◌≡◌, ◌-◌, [], List, length, Option, Some, None, slice_get, MatchOption, Bor, ap, sym, ◌∙◌}
use Rattle.std.specs.Option.{option_copied}
use Rattle.law_eval.specs.declared.work.Frame.{Frame}
use Rattle.law_eval.specs.Work.{running, IsFirst}
use Rattle.law_ids.specs.Tops.{tops}
use Rattle.law_eval.proofs.Tops.{last_first, no_last}
use Rattle.law_eval.proofs.work.Work.running.Goals as goal

-- the last of some frames, or none
last_frame : (frames : List Frame) (last : Option (Bor Frame)) → option_copied last ≡ slice_get frames (length frames - 1)
    → MatchOption last (tops running frames ≡ []) (λ frame. IsFirst (tops running frames) (running frame.now))
last_frame frames None e = no_last running frames (sym e)
last_frame frames (Some frame) e = let first = last_first running frames frame.now (sym e) in record { others = first.0; is = first.1 }

pub returns : goal.returns
returns c = last_frame c.args.self.now.frames.items c.last.result (c.last.ensures.value ∙ ap (λ l. slice_get l (length l - 1)) c.deref.ensures.value)
