use Rattle.std.proofs.Common.{sym, arith}
use Rattle.yaml_documents.proofs.Feeds.{block_more}
use Rattle.yaml_documents.proofs.lines.blocks_len.Goals as goal

pub loop-len-preserved : goal.loop-len-preserved
loop-len-preserved c = record {
  feedless = block_more c.args.text.now c.behind.result.now c.split_at.result.0.now c.loop-len.len c.behind.ensures c.split_at.ensures.front c.loop-len-test.true (sym c.if-has_feed.ensures) c.loop-len.invariant.feedless;
  within = omega (arith, c.loop-len-test.true, c.loop-len.invariant.within);
}
