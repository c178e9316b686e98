mod CountingFacts
mod LowFacts
mod PlayingFacts
