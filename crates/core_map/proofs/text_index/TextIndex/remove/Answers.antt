use Rattle.std.proofs.Common.{◌≡◌, ℕ, ◌+◌, ◌<◌, List, length, slice_index, sym, subst, arith, Option, Some}
use Rattle.std.proofs.lemmas.List.{get_or_read}
use Rattle.core_map.specs.declared.text_index.TextKey.{TextKey}
use Rattle.core_map.specs.Chains.{key_at, bucket_of, IsOnWay, IsBefore}
use Rattle.core_map.proofs.ChainLemmas.{on_way, remove_indexed, keyed_below}
use Rattle.core_map.proofs.text_index.TextIndex.remove.Goals as goal

pub before-at-requires : goal.before-at-requires
before-at-requires c =
    let a = c.self.inside in
    let start = c.len.result + c.bucket.result in
    let here : start ≡ length a.keys.items + bucket_of a.chains c.args.key = omega arith in
    let held : key_at a.keys.items c.args.frame ≡ Some c.args.key = subst (λ (k : List (Option TextKey)). key_at k c.args.frame ≡ Some c.args.key) (sym c.self.view_is) c.requires in
    let frames : length a.keys.items ≡ c.len-2.result = omega arith in
    subst (λ (links : List ℕ). IsOnWay links c.len-2.result start c.args.frame) (sym c.deref.ensures.value)
    (subst (λ (n : ℕ). IsOnWay a.links.items n start c.args.frame) frames
    (on_way a.chains a.links.items a.keys.items c.args.frame start c.args.key c.self.invariant held (omega arith) here))

pub invariant_of-self : goal.invariant_of-self
invariant_of-self c =
    let a = c.self.inside in
    let start = c.len.result + c.bucket.result in
    let here : start ≡ length a.keys.items + bucket_of a.chains c.args.key = omega arith in
    let held : key_at a.keys.items c.args.frame ≡ Some c.args.key = subst (λ (k : List (Option TextKey)). key_at k c.args.frame ≡ Some c.args.key) (sym c.self.view_is) c.requires in
    let low : c.args.frame < length a.links.items = omega (arith, keyed_below a.keys.items c.args.frame c.args.key held, c.self.invariant.links_length) in
    let after : c.index-after.result.now ≡ slice_index a.links.items c.args.frame = get_or_read a.links.items c.args.frame c.index-after.result.now low c.index-after.ensures 0 in
    let within : c.before-at.result < length a.links.items = subst (λ (l : List ℕ). c.before-at.result < length l) c.deref.ensures.value c.before-at.ensures.within in
    let before : IsBefore a.links.items start c.args.frame c.before-at.result =
    subst (λ (l : List ℕ). IsBefore l start c.args.frame c.before-at.result) c.deref.ensures.value c.before-at.ensures.before in
    remove_indexed a.chains a.links.items a.keys.items c.args.frame c.before-at.result c.index-after.result.now start c.args.key c.self.invariant held (omega arith) here before within after
