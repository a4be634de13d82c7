-- No access to a space misses.
use Rattle.std.proofs.Common.{◌≡◌, ℕ, Bool, Some, Err}
use Rattle.flat_state.specs.Space.{Space, answers_of, byte_at, may_write_at, address_in}
use Rattle.user_vax.specs.Program.{Program, run, ByteAccess, ReadOf, TestOf}
use Rattle.user_vax.specs.declared.refused.Refused.TheVariants as refusals
use Rattle.user_vax.specs.Laws.{read_refusal, test_refusal, refusal}
use Rattle.user_vax.proofs.Order.{keeps_order}
use Rattle.flat_state.specs.declared.spot.Spot.{Spot}
use Rattle.flat_state.specs.declared.spot.Spot.TheVariants.{Text, Data, Stack, Below, Outside}

pub space_hits : {A : Type 0} (s : Space) (p : Program A) (address : ℕ) (write : Bool) → run (answers_of s) p ≡ Err (refusals.Miss address write) → ⊥
space_hits s p address write e = let ends = (keeps_order (answers_of s) p).misses address write e in go ends.1 ends.4
  where
    by_read : (spot : Spot) (a : ℕ) → read_refusal (byte_at s spot) a ≡ Some (refusals.Miss address write) → ⊥
    by_read (Text i) a k = cc
    by_read (Data i) a k = cc
    by_read (Stack i) a k = cc
    by_read Below a k = cc
    by_read Outside a k = cc

    by_test : (spot : Spot) (a : ℕ) → test_refusal (may_write_at spot) a ≡ Some (refusals.Miss address write) → ⊥
    by_test (Text i) a k = cc
    by_test (Data i) a k = cc
    by_test (Stack i) a k = cc
    by_test Below a k = cc
    by_test Outside a k = cc

    go : (last : ByteAccess) → refusal (answers_of s) last ≡ Some (refusals.Miss address write) → ⊥
    go (ReadOf a) k = by_read (address_in s a) a k
    go (TestOf a) k = by_test (address_in s a) a k
