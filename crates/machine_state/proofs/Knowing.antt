-- What is known of the tables of a machine that runs.
use Rattle.std.proofs.Common.{◌≡◌, subst}
use Rattle.core_map.specs.Frames.{IsSoundMap}
use Rattle.flat_state.specs.Numbers.{AllDistinct}
use Rattle.table_steps.specs.Machine.{Standing, KernelRuns, lists_of, kernel_by}
use Rattle.machine_state.specs.declared.machine.Machine.TheInside.{Inside}
use Rattle.table_steps.proofs.Shows.{sids_shown}
use Rattle.table_steps.proofs.Held.{flown_numbers}
use Rattle.table_steps.specs.Known.{Known}
use Rattle.machine_state.specs.Fields.{standing_of, RunsInside}
use Rattle.machine_state.specs.Going.{CanGoOn}
use Rattle.machine_state.proofs.Standings.{running}

pub known_of : (m : Inside) → IsSoundMap m.tables.core.free m.tables.core.slots
    → KernelRuns (kernel_by m.tables m.journal.items m.stopped) (lists_of m.tables) m.tables.book.size → Known (lists_of m.tables)
known_of m c r = record {
  core = c;
  owns = r.sound.owner.frames;
  aside = r.sound.owner.aside;
  tied = r.tied;
  differ = subst AllDistinct (sids_shown m.tables.core.slots m.tables.spaces) r.numbered.spaces_differ;
  numbers = flown_numbers m.tables.ring;
}

pub known_now : (m : Inside) (s : Standing) → RunsInside m → standing_of m ≡ s → CanGoOn s → IsSoundMap m.tables.core.free m.tables.core.slots
    → Known (lists_of m.tables)
known_now m s h e g c = known_of m c (running m s h e g)
