use Rattle.std.proofs.Common.{◌≡◌, ◌<◌, ◌∙◌, ℕ, List, ap, sym, length, map, position, Some, bytes_eq, string_bytes}
use Rattle.std.proofs.lemmas.List.Quantifiers.{position-Some}
use Rattle.io_edge.specs.FileHolding.{NamedFile, named_file}
use Rattle.io_edge.proofs.NamedFiles.{position-map, bytes_at-map}
use Rattle.system_memory.proofs.mem_system.MemSystemSystem.open.Goals as goal

pub returns-in_ok-bytes-in-Some : goal.returns-in_ok-bytes-in-Some
returns-in_ok-bytes-in-Some c =
    let files = c.args.self.now.files.items in
    let name = c.args.name.now in
    let stands : position (λ file. bytes_eq (string_bytes file.0) name) files ≡ Some c.in-Some.at = cc in
    let within : c.in-Some.at < length files = (position-Some (λ file. bytes_eq (string_bytes file.0) name) files c.in-Some.at c.index.result.now stands).0 in (
      c.in-Some.at,
      position-map (λ (file : NamedFile). bytes_eq file.name name) named_file files ∙ stands,
      c.new.ensures
          ∙ ap (λ (xs : List ℕ). Some xs) (c.in_ok-bytes-in-Some.ensures ∙ c.as_slice-in-Some.ensures.value
          ∙ ap (λ (file : NamedFile). file.bytes) (ap named_file c.index.ensures)
          ∙ sym (bytes_at-map files c.in-Some.at c.index.result.now within)),
    )

pub returns-in-None : goal.returns-in-None
returns-in-None c = position-map (λ (file : NamedFile). bytes_eq file.name c.args.name.now) named_file c.args.self.now.files.items ∙ cc
