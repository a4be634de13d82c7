use Rattle.std.proofs.Common.{◌≡◌, ℕ, ◌*◌, ◌/◌, ◌%◌, arith, ap₂}
use Rattle.swap_dmap.specs.Chunks.{text_spot}
use Rattle.swap_dmap.proofs.text_place_of.Goals as goal

pub returns : goal.returns
unfolding text_spot
returns c =
    let v = c.args.v in
    let piece : v / 512 ≡ 2 * v / 1024 = omega arith in
    let block : v % 512 * 2 ≡ 2 * v % 1024 = omega arith in
    ap₂ (λ (i b : ℕ). (i, b)) piece block
