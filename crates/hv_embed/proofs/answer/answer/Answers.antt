use Rattle.hv_embed.proofs.answer.answer.Goals as goal

pub returns-else-not-is_empty-clause-answer : goal.returns-else-not-is_empty-clause-answer
returns-else-not-is_empty-clause-answer c = c.fill_reply.ensures.answer c.args.entry.now.input.now
