mod AssumedLines
mod CommandLines
mod SentLines
