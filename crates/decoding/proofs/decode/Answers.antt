-- `decode` meets its contract.
use Rattle.decoding.proofs.Judging.{job_done, right}
use Rattle.decoding.proofs.decode.Goals as goal

pub settle-requires : goal.settle-requires
settle-requires c =
    let R = right c.args.k c.args.levels c.args.n c.args.numbers.now c.args.bytes.now c.args.b c.in_ok-judge_decoding.ensures in
    record { levels_lt_k = R.less; k_le_most_size = R.size; n_le_most_planes = R.planes; numbers_len = R.places; b_bound = R.bits }

pub returns : goal.returns
returns c = job_done c.args.k c.args.levels c.args.n c.args.numbers.now c.args.bytes.now c.args.b _ c.in_ok-judge_decoding.ensures c.settle.ensures
