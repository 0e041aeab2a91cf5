use Rattle.hv_embed.proofs.explain.tell.Goals as goal

pub returns-clause-told : goal.returns-clause-told
returns-clause-told c = record {
  text = c.within.result.now;
  few = c.within.ensures.few;
  quotable = c.within.ensures.quotable;
  put = c.put_bytes.ensures.put;
}
