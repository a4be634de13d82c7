-- Spaces that are lent: each is with its child, or with one further on, and no child has two lenders.
use Rattle.std.specs.Prelude.{◌≡◌, ℕ, true, Option, Some, None}
use Rattle.flat_state.specs.Flat.{Holding, Holds, Lends, Zombie, Process, FlatState, process_of}
use Rattle.flat_state.specs.Change.{lends_to}

-- who was lent a space has it, or lent it on
abbrev pub HasOrLent : ℕ → Holding → Type 0
HasOrLent sid (Holds s) = s.sid ≡ sid
HasOrLent sid (Lends t child) = t ≡ sid
HasOrLent sid (Zombie status) = ⊥

-- the space is with this process: it has it, or lent it on
abbrev pub IsWith : ℕ → Option Process → Type 0
IsWith sid None = ⊥
IsWith sid (Some q) = HasOrLent sid q.holding

-- each lender's space is with its child, and no child has two lenders
pub record LendsStand (flat : FlatState) : Type 0 where
  pub right : (x : Process) (sid child : ℕ) → process_of flat x.pid ≡ Some x → x.holding ≡ Lends sid child → IsWith sid (process_of flat child)
  pub one : (x y : Process) (a b child : ℕ) → process_of flat x.pid ≡ Some x → process_of flat y.pid ≡ Some y → x.holding ≡ Lends a child
      → y.holding ≡ Lends b child → x.pid ≡ y.pid

-- this process lent the space to that one, and no other lent it one
pub record IsLender (flat : FlatState) (pid sid : ℕ) (m : Process) : Type 0 where
  pub found : process_of flat m.pid ≡ Some m
  pub holding : m.holding ≡ Lends sid pid
  pub only : (x : Process) → process_of flat x.pid ≡ Some x → lends_to pid x.holding ≡ true → x.pid ≡ m.pid
