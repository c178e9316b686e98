use Rattle.std.proofs.Common.{◌≡◌, ◌<◌, [], ◌∷◌, List, length, ◌==◌, refl, ap, sym, ◌∙◌, arith}
use Rattle.law_sig.specs.declared.tree.Body.{Body}
use Rattle.law_eval.specs.Work.{Todo, ids_of, todo_of, running, spread_out}
use Rattle.law_ids.specs.Tops.{tops}
use Rattle.law_eval.proofs.Tops.{has_first, pushed_twice, spread_is}
use Rattle.law_eval.proofs.work.Work.spread.Goals as goal

none_spread : (bodies : List Body) (more : List Todo) → length bodies < 1 → spread_out bodies more ≡ more
none_spread [] more h = refl
none_spread (b ∷ bodies) more h = absurd (omega arith)

pub returns-in_default-clause-ok : goal.returns-in_default-clause-ok
returns-in_default-clause-ok c =
    let r = has_first (λ row. row.items) c.args.self.now.rows.items (ap (λ n. n == 0) (sym c.args.self.now.rows.ok.0) ∙ sym c.is_empty.ensures ∙ c.if-is_empty.false) in
    let f = has_first running c.args.self.now.frames.items (ap (λ n. n == 0) (sym c.args.self.now.frames.ok.0) ∙ sym c.is_empty-2.ensures ∙ c.if-is_empty-2.false) in
    record {
      row = r.0;
      rows = r.1;
      frame = f.0;
      frames = f.1;
      has_row = r.2;
      has_frame = f.2;
      after = ap (λ tasks. record (ids_of c.args.self.now) { tasks = tasks }) (sym (none_spread c.args.bodies.now (tops todo_of c.args.self.now.tasks.items) c.in_default.len_below));
    }

pub returns-in_ok-push-2-clause-ok : goal.returns-in_ok-push-2-clause-ok
returns-in_ok-push-2-clause-ok c =
    let r = has_first (λ row. row.items) c.args.self.now.rows.items (ap (λ n. n == 0) (sym c.args.self.now.rows.ok.0) ∙ sym c.is_empty.ensures ∙ c.if-is_empty.false) in
    let f = has_first running c.args.self.now.frames.items (ap (λ n. n == 0) (sym c.args.self.now.frames.ok.0) ∙ sym c.is_empty-2.ensures ∙ c.if-is_empty-2.false) in
    record {
      row = r.0;
      rows = r.1;
      frame = f.0;
      frames = f.1;
      has_row = r.2;
      has_frame = f.2;
      after = ap (λ tasks. record (ids_of c.args.self.now) { tasks = tasks })
          (pushed_twice todo_of _ _ _ _ _ c.in_ok-push.ensures.items c.in_ok-push-2.ensures.items
          ∙ spread_is c.args.bodies.now c.first-item.result (tops todo_of c.args.self.now.tasks.items) c.in-len1-up.len_at_least c.first-item.is);
    }
