use Rattle.std.proofs.Common.{◌≡◌, ◌-◌, ◌<◌, ◌^◌, ◌≤◌, ℕ, List, Ok, Result, take, take_all, drop, length, length-drop, sym, ap, ◌∙◌, arith}
use Rattle.byteorder.specs.Endian.{little_number}
use Rattle.user_vax.specs.declared.refused.Refused.{Refused}
use Rattle.user_vax.specs.Operands.{past, back}
use Rattle.user_vax.proofs.Lent.{number_ahead}
use Rattle.vax_execute.proofs.Within.{past-back, ahead_within}
use Rattle.vax_execute.proofs.window.read_long_in.Goals as goal

pub returns-then-at-window : goal.returns-then-at-window
returns-then-at-window g c =
    let small : c.args.address < 2 ^ 32 = omega arith in
    let low : c.args.window.from < 2 ^ 32 = omega arith in
    let at : ℕ = back c.args.address c.args.window.from in
    let held = c.args.window.held.now in
    let place : past c.args.window.from at ≡ c.args.address = past-back c.args.address c.args.window.from small low in
    let within : 4 ≤ length (drop at held) = omega (arith, length-drop at held) in
    let ahead = ahead_within (g.M.Memory.answers c.args.memory.now) c.args.address c.args.window.from at held c.requires place in
    let whole : take (length held - at) (drop at held) ≡ drop at held = take_all (length held - at) (drop at held) (omega (arith, length-drop at held)) in
    let value : c.read_u32.result ≡ little_number 4 (drop at held) = c.read_u32.ensures ∙ ap (λ (bytes : List ℕ). little_number 4 bytes) whole in
    ap (λ (x : ℕ). let r : Result ℕ Refused = Ok x in r) value
    ∙ sym (number_ahead (g.M.Memory.answers c.args.memory.now) 4 c.args.address (drop at held) ahead small within)
