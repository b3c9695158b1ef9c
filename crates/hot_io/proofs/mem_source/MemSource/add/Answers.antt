use Rattle.std.proofs.Common.{rules, ◌≡◌, get_or, string_bytes, Some, None, ap}
use Rattle.std.specs.List.{position}
use Rattle.hot_io.specs.MemSource.{NamedBytes, MemFiles, is_named, file_of}
use Rattle.hot_io.proofs.Names.{file_of-position, PutsFile-set, PutsFile-push}
use Rattle.hot_io.proofs.mem_source.MemSource.add.Goals as goal

pub returns-in-Some-clause-ok : goal.returns-in-Some-clause-ok
returns-in-Some-clause-ok c =
    let files = c.self.inside.files.items in
    let found : position (is_named c.args.name.now) files ≡ Some c.in-Some.i = search rules in
    let at : c.index_mut-file.result.now ≡ get_or files c.in-Some.i c.index_mut-file.result.now = search rules in
    let copied : c.in_ok-bytes.bytes.items ≡ c.args.bytes.now = search rules in
    let same : files ≡ c.args.self.now.files = ap (λ (s : MemFiles). s.files) c.self.view_is in
    let kept : string_bytes c.file.inside.name ≡ c.index_mut-file.result.now.name = ap (λ (f : NamedBytes). f.name) c.file.view_is in
    let new : NamedBytes = record { name = string_bytes c.file.inside.name; bytes = c.in_ok-bytes.bytes.items } in
    rw (← copied, ← same) (PutsFile-set files c.args.name.now c.in-Some.i c.index_mut-file.result.now new found at kept)

pub returns-in_ok-push-in-None-clause-ok : goal.returns-in_ok-push-in-None-clause-ok
returns-in_ok-push-in-None-clause-ok c =
    let files = c.self.inside.files.items in
    let copied : c.in_ok-bytes.bytes.items ≡ c.args.bytes.now = search rules in
    let named : string_bytes c.in_ok-name-in-None.name ≡ c.args.name.now = search rules in
    let same : files ≡ c.args.self.now.files = ap (λ (s : MemFiles). s.files) c.self.view_is in
    let new : NamedBytes = record { name = string_bytes c.in_ok-name-in-None.name; bytes = c.in_ok-bytes.bytes.items } in
    let missing : file_of files (string_bytes c.in_ok-name-in-None.name) ≡ None = file_of-position files (string_bytes c.in_ok-name-in-None.name) None (search rules) in
    rw (c.in_ok-push-in-None.ensures.items, ← copied, ← same, ← named) (PutsFile-push files new missing)
