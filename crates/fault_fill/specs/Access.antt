-- What an access of a byte asks for, by the space's segments: its page, growth of the stack, or a signal.
use Rattle.std.specs.Prelude.{ℕ, ◌+◌, ◌-◌, ◌*◌, ◌/◌, Bool, true, false, length}
use Rattle.vm_facts.specs.declared.page.Page.TheVariants as pages
use Rattle.flat_state.specs.Space.{spot_at, stack_top}
use Rattle.flat_state.specs.declared.spot.Spot.{Spot}
use Rattle.flat_state.specs.declared.spot.Spot.TheVariants as spots
use Rattle.space_map.specs.Space.{Places}
use Rattle.fault_fill.specs.declared.access.Access.{Access}
use Rattle.fault_fill.specs.declared.access.Access.TheVariants as accesses

-- Its page; growth of the stack up to its page; or a signal, by the spot of the address: a write to text is refused with 10,
-- and an address outside the segments and the stack's reach with 11.
abbrev pub access_at : ℕ → ℕ → ℕ → Spot → Bool → Access
access_at sid image address (spots.Text at) true = accesses.Refused 10
access_at sid image address (spots.Text at) false = accesses.Page (pages.Text image (at / 1024))
access_at sid image address (spots.Data at) write = accesses.Page (pages.Data sid (at / 1024))
access_at sid image address (spots.Stack at) write = accesses.Page (pages.Stack sid (at / 1024))
access_at sid image address spots.Below write = accesses.Growth sid ((stack_top - 1 - address) / 1024 + 1)
access_at sid image address spots.Outside write = accesses.Refused 11

-- by the map of the space, whose segments have whole pages
abbrev pub access_of : Places → ℕ → Bool → Access
access_of s address write =
    access_at s.sid s.image address (spot_at (1024 * length s.text) (1024 * length s.«data») (1024 * length s.stack) address) write
