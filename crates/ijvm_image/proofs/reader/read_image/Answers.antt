use Rattle.std.proofs.Common.{◌<◌, All, ℕ}
use Rattle.std.proofs.lemmas.List.Elements.{All-from_get_or}
use Rattle.ijvm_image.proofs.Files.{read-ok, read-reads}
use Rattle.ijvm_image.proofs.Refusals.{read-refused}
use Rattle.ijvm_image.proofs.reader.read_image.Goals as goal

pub returns-clause-ok : goal.returns-clause-ok
returns-clause-ok c =
    let small : All (λ (b : ℕ). b < 256) c.args.bytes.now = All-from_get_or (λ (b : ℕ). b < 256) c.args.bytes.now 0 (λ k inside. (c.type_inv.bytes k).fits) in
    read-ok c.args.bytes.now c.read_file.result small c.read_file.ensures.ok

pub returns-clause-reads : goal.returns-clause-reads
returns-clause-reads c = read-reads c.args.bytes.now c.read_file.result c.read_file.ensures.ok c.read_file.ensures.err

pub returns-clause-err : goal.returns-clause-err
returns-clause-err c = read-refused c.args.bytes.now c.read_file.result c.read_file.ensures.err
