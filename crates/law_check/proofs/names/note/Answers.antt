use Rattle.std.proofs.Common.{◌≡◌, [], ◌∷◌, ◌++◌, OnOk, subst, sym}
use Rattle.law_typing.proofs.NameTable.{noted}
use Rattle.law_check.proofs.names.note.Goals as goal
use Rattle.law_check.proofs.names.note.Goals.{in-Ok, in-Err}

pub returns : goal.returns
returns c = elim c.match-insert.branch [
  | in-Ok w ↦ subst (λ r. OnOk r (c.insert.new.self.entries ≡ c.args.table.now.entries ++ (c.args.key, c.args.number) ∷ [])) (sym w.result-is)
      (noted _ c.args.table.now c.args.key c.args.number c.insert.new.self.entries c.requires w.in-Ok.ensures.entries)
  | in-Err w ↦ subst (λ r. OnOk r (c.insert.new.self.entries ≡ c.args.table.now.entries ++ (c.args.key, c.args.number) ∷ [])) (sym w.result-is) tt
]
