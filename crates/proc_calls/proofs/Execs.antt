-- The number of an image that a reply starts.
use Rattle.std.proofs.Common.{◌≡◌, ℕ, ◌≤◌, List, length, map, ap, arith}
use Rattle.std.proofs.lemmas.List.{length-map}
use Rattle.machine_state.specs.Machine.{Standing, image_shown}
use Rattle.machine_state.specs.Sourced.{ImageNamed}
use Rattle.machine_state.specs.Named.{Named}
use Rattle.call_reads.specs.Reading.{IsAmong}
use Rattle.proc_calls.specs.Starting.{IsImageOf}

pub is_image : (shown : List Named) (m : Standing) → map image_shown shown ≡ m.images → (n : ℕ) → IsAmong shown n → IsImageOf m n
is_image shown m e n among = (
  among.0,
  (let a = ap (λ (ns : List ImageNamed). length ns) e in let z = length-map shown image_shown in let l = among.1 in omega (arith, a, z, l)),
)
