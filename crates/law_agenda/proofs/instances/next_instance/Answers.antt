use Rattle.std.proofs.Common.{◌<◌, ◌≤◌, ◌+◌, sym, subst, subst₂, arith}
use Rattle.law_agenda.specs.Instances.{IsHeld, IsInstanceOf}
use Rattle.law_agenda.specs.Walking.{IsWalk}
use Rattle.law_agenda.proofs.Seeking.{some_case, none_case}
use Rattle.law_agenda.proofs.Instancing.{no_next_var, next_var_instance, is_next, no_next}
use Rattle.law_agenda.proofs.instances.next_instance.Goals as goal

pub returns-then-index-count-2 : goal.returns-then-index-count-2
returns-then-index-count-2 c = λ parts lives d t held is.
    let (e, open', k, within) = subst (λ z. IsHeld parts lives z d) c.in-Var.is held in
    let of = subst (λ z. IsInstanceOf lives z t) c.in-Var.is is in
    let h = c.if-index-count-2.true in
    let past : c.in-Var.count ≤ c.in-Var.index + 1 = omega arith in
    no_next_var parts lives c.in-Var.sort d e open' c.in-Var.index c.in-Var.count t of k within past

pub returns-else-index-count-2 : goal.returns-else-index-count-2
returns-else-index-count-2 c = λ parts lives d t held is.
    let (e, open', k, within) = subst (λ z. IsHeld parts lives z d) c.in-Var.is held in
    let of = subst (λ z. IsInstanceOf lives z t) c.in-Var.is is in
    let h = c.if-index-count-2.false in
    let more : c.in-Var.index + 1 < c.in-Var.count = omega arith in
    next_var_instance parts lives c.in-Var.sort d e open' c.in-Var.index c.in-Var.count t of k within more

pub returns-in-Some : goal.returns-in-Some
returns-in-Some c = λ parts lives d t held is.
    let (cs, e, open') = subst (λ z. IsHeld parts lives z d) c.in-App.is held in
    let of = subst (λ z. IsInstanceOf lives z t) c.in-App.is is in
    let itself : IsWalk c.in-App.walk c.in-App.walk.choices c.in-App.walk.weight = subst₂ (IsWalk c.in-App.walk) (sym of.0.choices_are) (sym of.0.weight_is) of.0 in
    let h = some_case _ _ c.in_ok-next-in-App.field-0 c.in-Some.next c.in-Some.is (c.in_ok-next-in-App.ensures itself) in
    is_next parts lives c.in-App.sym d cs c.in-App.ranges e open' c.in-App.walk c.in-Some.next t of h.0 h.1

pub returns-in-None : goal.returns-in-None
returns-in-None c = λ parts lives d t held is.
    let (cs, e, open') = subst (λ z. IsHeld parts lives z d) c.in-App.is held in
    let of = subst (λ z. IsInstanceOf lives z t) c.in-App.is is in
    let itself : IsWalk c.in-App.walk c.in-App.walk.choices c.in-App.walk.weight = subst₂ (IsWalk c.in-App.walk) (sym of.0.choices_are) (sym of.0.weight_is) of.0 in
    no_next parts lives c.in-App.sym d cs c.in-App.ranges e open' c.in-App.walk t of (none_case _ _ c.in_ok-next-in-App.field-0 c.in-None.is (c.in_ok-next-in-App.ensures itself))
