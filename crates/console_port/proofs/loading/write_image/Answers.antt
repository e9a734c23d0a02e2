use Rattle.std.proofs.Common.{◌/◌, ◌<◌, ℕ, slice_index, inl, ◌∙◌, arith}
use Rattle.console_port.proofs.Bytes.{byte_in-text}
use Rattle.console_port.proofs.loading.write_image.Goals as goal

pub returns-clause-loaded : goal.returns-clause-loaded
returns-clause-loaded c =
    let text_end = c.requires.text in
    let small : (i : ℕ) → slice_index c.args.text.now i < 256 = λ i. let fits = c.type_inv.text i in omega arith in
    record {
      words = c.holds_words.ensures;
      size = c.write_pool.ensures.size ∙ c.write_text.ensures.size;
      text_bytes = λ byte h.
          let below : byte / 4 < 0x4000 = omega arith in
          byte_in-text c.args.text.now small c.write_pool.new.memory byte (c.write_pool.ensures.others (byte / 4) (inl below) ∙ c.write_text.ensures.text (byte / 4) h);
      pool_words = c.write_pool.ensures.pool;
      others = λ at h side. c.write_pool.ensures.others at side ∙ c.write_text.ensures.others at h;
    }

pub returns-clause-text : goal.returns-clause-text
returns-clause-text c =
    let text_end = c.requires.text in
    λ at h.
    let below : at < 0x4000 = omega arith in
    c.write_pool.ensures.others at (inl below) ∙ c.write_text.ensures.text at h
