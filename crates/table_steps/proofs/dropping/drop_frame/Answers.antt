use Rattle.std.proofs.Common.{◌≡◌, ℕ, IsTrue, List, ◌∷◌, set, None, sym, ap, ◌∙◌, set-set, refl}
use Rattle.frame_state.specs.Frame.{Frame}
use Rattle.core_map.specs.declared.slot.Slot.{Slot as Token}
use Rattle.core_map.specs.declared.slot.Slot.TheVariants as tokens
use Rattle.core_map.specs.Slots.{slot_at, is_resident, listings}
use Rattle.vm_facts.proofs.Lists.{without_absent}
use Rattle.table_steps.proofs.dropping.drop_frame.Goals as goal

unlisted : (s : Token) → IsTrue (is_resident s) → listings s ≡ 0
unlisted (tokens.Resident token page dirty) h = refl
unlisted _ h = absurd cc

pub returns-in-Resident-clause-free : goal.returns-in-Resident-clause-free
returns-in-Resident-clause-free c =
    let f : ℕ = c.args.frame in
    let number : c.release-token.result.number ≡ f = ap (λ (x : Frame). x.number) c.release-token.ensures ∙ c.lift.ensures.number in
    c.give_head.ensures.free
    ∙ ap (λ (n : ℕ). n ∷ c.lift.new.self.free) number
    ∙ ap (λ (fs : List ℕ). f ∷ fs)
    (c.lift.ensures.free ∙ sym (without_absent f c.args.core.now.free (c.owner.ensures.sound.listed f ∙ unlisted (slot_at c.args.core.now.slots f) c.in-Resident.ensures.slot.0)))

pub returns-in-Resident-clause-slots : goal.returns-in-Resident-clause-slots
returns-in-Resident-clause-slots c =
    let f : ℕ = c.args.frame in
    let old : List Token = c.args.core.now.slots in
    let token : Frame = c.release-token.result in
    let number : token.number ≡ f = ap (λ (x : Frame). x.number) c.release-token.ensures ∙ c.lift.ensures.number in
    c.give_head.ensures.slots
    ∙ ap (λ (n : ℕ). set c.lift.new.self.slots n (tokens.Free token None)) number
    ∙ ap (λ (ss : List Token). set ss f (tokens.Free token None)) c.lift.ensures.slots
    ∙ set-set old f tokens.Away (tokens.Free token None)
    ∙ ap (λ (x : Frame). set old f (tokens.Free x None)) (c.release-token.ensures ∙ c.lift.ensures.token)
