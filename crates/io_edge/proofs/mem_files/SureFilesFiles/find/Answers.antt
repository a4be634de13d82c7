use Rattle.std.proofs.Common.{◌≡◌, ◌<◌, ◌∙◌, ap, arith, length, map, position, Some, bytes_eq, string_bytes}
use Rattle.std.proofs.lemmas.List.Quantifiers.{position-Some}
use Rattle.io_edge.specs.FileHolding.{NamedFile, named_file}
use Rattle.io_edge.proofs.NamedFiles.{position-map, bytes_at-map}
use Rattle.io_edge.specs.Known.{known_from_answer}
use Rattle.io_edge.specs.declared.Found.TheVariants.{Is, Absent}
use Rattle.io_edge.proofs.mem_files.SureFilesFiles.find.Goals as goal

pub returns-in-Some-clause-answer : goal.returns-in-Some-clause-answer
returns-in-Some-clause-answer c =
    let files = c.args.self.now.files.items in
    let name = c.args.name.now in
    let stands : position (λ file. bytes_eq (string_bytes file.0) name) files ≡ Some c.in-Some.at = cc in
    let within : c.in-Some.at < length files = (position-Some (λ file. bytes_eq (string_bytes file.0) name) files c.in-Some.at c.index.result.now stands).0 in
    let bytes = bytes_at-map files c.in-Some.at c.index.result.now within in (
      position-map (λ (file : NamedFile). bytes_eq file.name name) named_file files ∙ stands,
      (let told = ap (λ (file : NamedFile). length file.bytes) (ap named_file c.index.ensures) in omega (arith, told, ap length bytes)),
    )

pub returns-in-None-clause-answer : goal.returns-in-None-clause-answer
returns-in-None-clause-answer c =
    position-map (λ (file : NamedFile). bytes_eq file.name c.args.name.now) named_file c.args.self.now.files.items ∙ cc

pub returns-in-Some-clause-known : goal.returns-in-Some-clause-known
returns-in-Some-clause-known c =
    known_from_answer (map named_file c.args.self.now.files.items) c.args.name.now (Is c.in-Some.at c.len.result) (returns-in-Some-clause-answer c)

pub returns-in-None-clause-known : goal.returns-in-None-clause-known
returns-in-None-clause-known c =
    known_from_answer (map named_file c.args.self.now.files.items) c.args.name.now Absent (returns-in-None-clause-answer c)
