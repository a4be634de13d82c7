use Rattle.std.proofs.Common.{◌≡◌, ◌+◌, ◌<◌, List, length, slice_index, sym, subst, arith, Option, None}
use Rattle.std.proofs.lemmas.List.{get_or_read}
use Rattle.core_map.specs.declared.text_index.TextKey.{TextKey}
use Rattle.core_map.specs.Chains.{key_at, bucket_of}
use Rattle.core_map.proofs.ChainLemmas.{add_indexed}
use Rattle.core_map.proofs.text_index.TextIndex.add.Goals as goal

pub invariant_of-self : goal.invariant_of-self
invariant_of-self c =
    let a = c.self.inside in
    let start = c.len.result + c.bucket.result in
    let here : start ≡ length a.keys.items + bucket_of a.chains c.args.key = omega arith in
    let within : start < length a.links.items = omega (arith, c.self.invariant.links_length) in
    let first : c.index-first.result.now ≡ slice_index a.links.items start = get_or_read a.links.items start c.index-first.result.now within c.index-first.ensures 0 in
    let low : c.args.frame < length a.keys.items = subst (λ (k : List (Option TextKey)). c.args.frame < length k) (sym c.self.view_is) c.requires.below in
    let free : key_at a.keys.items c.args.frame ≡ None = subst (λ (k : List (Option TextKey)). key_at k c.args.frame ≡ None) (sym c.self.view_is) c.requires.free in
    add_indexed a.chains a.links.items a.keys.items c.args.frame c.index-first.result.now start c.args.key c.self.invariant c.requires.above_zero low free (omega arith) here first
