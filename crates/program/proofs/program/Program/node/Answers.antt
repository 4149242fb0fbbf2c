use Rattle.std.proofs.Common.{◌∙◌, rules}
use Rattle.program.proofs.Decoding.{read_named}
use Rattle.program.proofs.program.Program.node.Goals as goal

pub unwrap-requires : goal.unwrap-requires
unwrap-requires c =
    let e = c.of.ensures ∙ read_named c.args.self.now.nodes.now c.as_chunks.result.0.now c.args.n c.as_chunks.ensures.front c.requires (c.args.self.now.sound.named c.args.n c.requires) in
    search rules

pub returns : goal.returns
returns c =
    let e = c.of.ensures ∙ read_named c.args.self.now.nodes.now c.as_chunks.result.0.now c.args.n c.as_chunks.ensures.front c.requires (c.args.self.now.sound.named c.args.n c.requires) in
    cc
