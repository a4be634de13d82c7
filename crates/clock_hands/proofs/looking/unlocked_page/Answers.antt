use Rattle.std.proofs.Common.{◌≡◌, true, sym, ap, ◌∙◌, subst}
use Rattle.vm_facts.specs.declared.page.Page.{Page}
use Rattle.core_map.specs.declared.slot.Whose.TheVariants as owners
use Rattle.core_map.specs.Slots.{slot_owner}
use Rattle.flat_state.specs.PageNames.{is_among}
use Rattle.clock_hands.proofs.Seats.{HasToken, resident_token, seat_token, token_seat}
use Rattle.clock_hands.proofs.looking.unlocked_page.Goals as goal

pub returns-in_default : goal.returns-in_default
returns-in_default c = λ q s.
    let core = c.core-core.result.now in
    let t : HasToken core c.args.frame q = seat_token c.args.m.now.kernel.place core q c.args.frame c.requires.sound.owner.frames c.core-core.ensures s in
    absurd (c.in_default.not-Resident q (c.owner.ensures.owner ∙ ap slot_owner t.slot))

pub returns-then-is_among : goal.returns-then-is_among
returns-then-is_among c = λ q s.
    let core = c.core-core.result.now in
    let t : HasToken core c.args.frame q = seat_token c.args.m.now.kernel.place core q c.args.frame c.requires.sound.owner.frames c.core-core.ensures s in
    let both : owners.Resident c.in-Resident.page ≡ owners.Resident q = sym c.in-Resident.is ∙ c.owner.ensures.owner ∙ ap slot_owner t.slot in
    let same : c.in-Resident.page ≡ q = cc in
    subst (λ (r : Page). is_among r c.args.locked.now ≡ true) same (sym c.is_among.ensures ∙ c.if-is_among.true)

pub returns-else-is_among : goal.returns-else-is_among
returns-else-is_among c =
    let core = c.core-core.result.now in (
      token_seat c.args.m.now.kernel.place core c.in-Resident.page c.args.frame c.requires.sound.owner.frames c.core-core.ensures
          (resident_token core c.args.frame c.in-Resident.page c.in-Resident.ensures.slot.0 c.in-Resident.ensures.slot.1),
      sym c.is_among.ensures ∙ c.if-is_among.false,
    )
