use Rattle.std.proofs.Common.{refl, sym, arith}
use Rattle.pool.proofs.Showing.{live_sound, live_apart, shows}
use Rattle.pool.proofs.store.Memory.view.Goals as goal
use Rattle.pool.proofs.store.Memory.view.Goals.{then-vouches, else-vouches}

pub invariant_of-result : goal.invariant_of-result
invariant_of-result c = record { sound = grind (arith, live_sound); apart = grind (arith, live_apart) }

pub returns : goal.returns
returns c =
    elim c.if-vouches.branch [
      | then-vouches w ↦ rw (← w.if-vouches.ensures) (shows c.args.self.now c.args.counts.now _ (sym w.if-vouches.ensures) (rw (w.records-is, w.live-records.ensures)) refl)
      | else-vouches w ↦ rw (← w.if-vouches.ensures, w.records-is)
    ]
