use Rattle.std.proofs.Common.{◌-◌}
use Rattle.law_agenda.proofs.stores.+first_application.Given as goal

abbrev pub decreases-first_application : goal.decreases-first_application
decreases-first_application l = l.universe.now.settings.size - l.store.weight
